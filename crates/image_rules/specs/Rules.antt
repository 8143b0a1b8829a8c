-- The rules of document 01, "The tree image", for one expression, one item, and the order of an expression's items.
use Rattle.std.specs.Prelude.{ℕ, Bool, true, false, cond, ◌&&◌, ◌||◌, List, [], ◌∷◌, ◌++◌, map, eqb, ltb, leb, length, Option, Some, None}
use Rattle.semantics.specs.Codes.{none_number, kinds, details, roles}
use Rattle.semantics.specs.Base.{only, pick, every}
use Rattle.semantics.specs.Tree.{Item, Tree, is_none, expr_at}

-- "Details: Literal 0 .. 4; BinOp 0 .. 14; AttrSet 1 if rec, else 0; UnaryOp 0, 1; others 0": how many a kind has
unfoldable pub detail_count : ℕ → ℕ
detail_count kind = pick kind ((kinds.Literal, 5) ∷ (kinds.BinOp, 15) ∷ (kinds.AttrSet, 2) ∷ (kinds.UnaryOp, 2) ∷ []) 1

-- "Only Reference and String literals have a text"
unfoldable pub texted : ℕ → ℕ → Bool
texted kind detail = eqb kind kinds.Reference || (eqb kind kinds.Literal && eqb detail details.String)

-- ".. and it is below T": others hold 16383
unfoldable pub text_fits : ℕ → Bool → ℕ → Bool
text_fits texts true text = ltb text texts
text_fits texts false text = is_none text

-- "Kinds 0 to 16 follow `Expr`", with the details and the text above
unfoldable pub expr_fits : ℕ → ℕ → ℕ → ℕ → Bool
expr_fits texts kind detail text = leb kind kinds.PathInterpolation && ltb detail (detail_count kind) && text_fits texts (texted kind detail) text

-- whether a role's item has a number: it does, it may, it does not
pub data Presence : Type 0 where
  has : Presence
  may : Presence
  has_not : Presence

-- a number that is there is below a bound; 16383 says that none is
unfoldable pub fits : Presence → ℕ → ℕ → Bool
fits has bound x = ltb x bound
fits may bound x = is_none x || ltb x bound
fits has_not bound x = is_none x

-- "Roles 4, 5, 6, 10 have a name, below N, 3 may, others not."
unfoldable pub name_presence : ℕ → Presence
name_presence role = pick role ((roles.PatternField, may) ∷ (roles.StaticExpr, has) ∷ (roles.Inherit, has) ∷ (roles.InheritFrom, has) ∷ (roles.Parameter, has) ∷ []) has_not

-- "Role 10 has no expression, 3 may, others do"
unfoldable pub expr_presence : ℕ → Presence
expr_presence role = pick role ((roles.PatternField, may) ∷ (roles.Parameter, has_not) ∷ []) has

-- 6, of an item where so many names are: "Roles: 0 child .. 10 parameter", its name, and whether an expression is there, which is any number but the one for none
unfoldable pub item_stands : ℕ → Item → Bool
item_stands names i =
    leb i.role roles.Parameter && fits (name_presence i.role) names i.name && fits (expr_presence i.role) none_number i.expression

-- 10: "An expression number present where its role allows one, but not smaller than its owner's"; where the role allows none, 6 has been given
unfoldable pub smaller : ℕ → Item → Bool
smaller owner i = fits may owner i.expression

-- 11: "an Inherit that names something else than a Reference"
unfoldable pub inherits : Tree → Item → Bool
inherits t i = cond (eqb i.role roles.Inherit) (eqb (expr_at t i.expression).kind kinds.Reference) true

-- A part of an order of items: one item of a role; perhaps one; any number of items of these roles; any number of pairs.
pub data Part : Type 0 where
  one : ℕ → Part
  perhaps : ℕ → Part
  any : List ℕ → Part
  pairs : ℕ → ℕ → Part

-- "Bindings: any mix of 4, 5, 6; then any 7; then pairs 8, 9."
unfoldable pub bindings : List Part
bindings = any (roles.StaticExpr ∷ roles.Inherit ∷ roles.InheritFrom ∷ []) ∷ any (roles.InheritBase ∷ []) ∷ pairs roles.DynamicKey roles.DynamicValue ∷ []

-- "Item order", by kind. Apply, IfThenElse, BinOp, UnaryOp, With, Assert: "children as `Expr` lists its fields".
-- "Lambda: perhaps 10, any 3, body. LetIn: bindings, body. AttrSet: bindings. Select: set, any 1, perhaps 2.
-- HasAttr: set, any 1. Lists and interpolations: any 0. Missing, Literal, Reference: no items."
unfoldable pub order : ℕ → List Part
order kind =
    pick kind
    ((kinds.Apply, one roles.Child ∷ one roles.Child ∷ [])
    ∷ (kinds.IfThenElse, one roles.Child ∷ one roles.Child ∷ one roles.Child ∷ [])
    ∷ (kinds.Lambda, perhaps roles.Parameter ∷ any (roles.PatternField ∷ []) ∷ one roles.Child ∷ [])
    ∷ (kinds.LetIn, bindings ++ one roles.Child ∷ [])
    ∷ (kinds.List, any (roles.Child ∷ []) ∷ [])
    ∷ (kinds.BinOp, one roles.Child ∷ one roles.Child ∷ [])
    ∷ (kinds.AttrSet, bindings)
    ∷ (kinds.UnaryOp, one roles.Child ∷ [])
    ∷ (kinds.Select, one roles.Child ∷ any (roles.PathKey ∷ []) ∷ perhaps roles.Default ∷ [])
    ∷ (kinds.HasAttr, one roles.Child ∷ any (roles.PathKey ∷ []) ∷ [])
    ∷ (kinds.With, one roles.Child ∷ one roles.Child ∷ [])
    ∷ (kinds.Assert, one roles.Child ∷ one roles.Child ∷ [])
    ∷ (kinds.StringInterpolation, any (roles.Child ∷ []) ∷ [])
    ∷ (kinds.PathInterpolation, any (roles.Child ∷ []) ∷ [])
    ∷ [])
    []

-- one of these roles
unfoldable pub among : ℕ → List ℕ → Bool
among r [] = false
among r (x ∷ xs) = eqb r x || among r xs

-- what may follow once an item of role r has come, or nothing where it may not come
unfoldable pub next : List Part → ℕ → Option (List Part)
next [] r = None
next (one x ∷ ps) r = only (eqb r x) ps
next (perhaps x ∷ ps) r = cond (eqb r x) (Some ps) (next ps r)
next (any xs ∷ ps) r = cond (among r xs) (Some (any xs ∷ ps)) (next ps r)
next (pairs x y ∷ ps) r = cond (eqb r x) (Some (one y ∷ pairs x y ∷ ps)) (next ps r)

-- nothing more has to come
unfoldable pub complete : List Part → Bool
complete [] = true
complete (one x ∷ ps) = false
complete (perhaps x ∷ ps) = complete ps
complete (any xs ∷ ps) = complete ps
complete (pairs x y ∷ ps) = complete ps

-- the roles come in this order
unfoldable pub follows : List Part → List ℕ → Bool
follows ps [] = complete ps
follows ps (r ∷ rs) = elim (next ps r) [ None ↦ false | Some qs ↦ follows qs rs ]

-- 6, of the items of an expression: each stands, and their roles come in the order of its kind
unfoldable pub items_stand : Tree → ℕ → Bool
items_stand t e = every (item_stands (length t.names)) (expr_at t e).items && follows (order (expr_at t e).kind) (map (λ i. i.role) (expr_at t e).items)

-- 10 and 11, of the items of an expression
unfoldable pub items_smaller : Tree → ℕ → Bool
items_smaller t e = every (smaller e) (expr_at t e).items

unfoldable pub items_inherit : Tree → ℕ → Bool
items_inherit t e = every (inherits t) (expr_at t e).items
