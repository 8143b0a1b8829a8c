-- What the private functions of the code promise each other: marks and states of the code's tables. The proofs tie them to `fits`, `next`,
-- `complete` and `order`.
use Rattle.std.specs.Prelude.{ℕ, ◌*◌, ◌/◌, ◌%◌, ◌^◌, ◌≤◌, ◌<◌, ◌≡◌, Bool, false, ◌&&◌, List, [], ◌∷◌, ◌++◌, eqb, ltb, leb, get_or, Option, Some, None}
use Rattle.semantics.specs.Codes.{kinds, roles}
use Rattle.semantics.specs.Base.{pick}
use Rattle.semantics.specs.Tree.{Item, is_none}
use Rattle.image_rules.specs.Rules.{detail_count, Presence, has, may, has_not, fits, Part, one, perhaps, any, pairs, bindings, order, next, complete}

-- what may still come: nothing (the order is broken), or a list of parts
unfoldable pub states : List (Option (List Part))
states =
    None
    ∷ Some (one roles.Child ∷ [])
    ∷ Some (one roles.Child ∷ one roles.Child ∷ [])
    ∷ Some (one roles.Child ∷ one roles.Child ∷ one roles.Child ∷ [])
    ∷ Some (perhaps roles.Parameter ∷ any (roles.PatternField ∷ []) ∷ one roles.Child ∷ [])
    ∷ Some (any (roles.PatternField ∷ []) ∷ one roles.Child ∷ [])
    ∷ Some (bindings ++ one roles.Child ∷ [])
    ∷ Some (any (roles.InheritBase ∷ []) ∷ pairs roles.DynamicKey roles.DynamicValue ∷ one roles.Child ∷ [])
    ∷ Some (pairs roles.DynamicKey roles.DynamicValue ∷ one roles.Child ∷ [])
    ∷ Some (one roles.DynamicValue ∷ pairs roles.DynamicKey roles.DynamicValue ∷ one roles.Child ∷ [])
    ∷ Some (one roles.DynamicValue ∷ pairs roles.DynamicKey roles.DynamicValue ∷ [])
    ∷ Some (one roles.Child ∷ any (roles.PathKey ∷ []) ∷ perhaps roles.Default ∷ [])
    ∷ Some (one roles.Child ∷ any (roles.PathKey ∷ []) ∷ [])
    ∷ Some []
    ∷ Some bindings
    ∷ Some (any (roles.InheritBase ∷ []) ∷ pairs roles.DynamicKey roles.DynamicValue ∷ [])
    ∷ Some (pairs roles.DynamicKey roles.DynamicValue ∷ [])
    ∷ Some (any (roles.Child ∷ []) ∷ [])
    ∷ Some (any (roles.PathKey ∷ []) ∷ perhaps roles.Default ∷ [])
    ∷ Some (any (roles.PathKey ∷ []) ∷ [])
    ∷ []

unfoldable pub state_of : ℕ → Option (List Part)
state_of q = get_or states q None

-- the order of a kind, one item more, the end
unfoldable pub started : ℕ → Option (List Part)
started kind = Some (order kind)

unfoldable pub advance : Option (List Part) → ℕ → Option (List Part)
advance None role = None
advance (Some ps) role = next ps role

unfoldable pub finished : Option (List Part) → Bool
finished None = false
finished (Some ps) = complete ps

-- a row of the machine's table: 5 bits a role, from the right
pub record Row (q row : ℕ) : Type 0 where
  pub next : (role : ℕ) → role ≤ roles.Parameter → state_of (row / 2 ^ (5 * role) % 2 ^ 5) ≡ advance (state_of q) role
  pub known : (role : ℕ) → role ≤ roles.Parameter → row / 2 ^ (5 * role) % 2 ^ 5 < 20

-- the kind and the detail of a form, which is both in one number: "kind 5, detail 5"
abbrev pub form_kind : ℕ → ℕ
form_kind form = form / 32

abbrev pub form_detail : ℕ → ℕ
form_detail form = form % 32

-- rule 5 of an expression with items, which has no text
unfoldable pub owner_fits : ℕ → ℕ → ℕ → Bool
owner_fits kind detail text = leb kind kinds.PathInterpolation && ltb detail (detail_count kind) && is_none text

-- an item of a role, without a name, and with an expression below its owner, and a child
unfoldable pub plain_below : ℕ → ℕ → Item → Bool
plain_below role owner i = eqb i.role role && is_none i.name && ltb i.expression owner

abbrev pub child_below : ℕ → Item → Bool
child_below owner = plain_below roles.Child owner

-- an item of a role, with a name
unfoldable pub named_below : ℕ → ℕ → Item → Bool
named_below role names i = eqb i.role role && ltb i.name names

-- a field of a pattern, which may have a name and an expression, and a parameter, which has a name only
unfoldable pub field_below : ℕ → ℕ → Item → Bool
field_below owner names i = eqb i.role roles.PatternField && fits may names i.name && fits may owner i.expression

unfoldable pub parameter_below : ℕ → Item → Bool
parameter_below names i = named_below roles.Parameter names i && is_none i.expression

-- the marks of a role
unfoldable pub presence_of : ℕ → Presence
presence_of mark = pick mark ((2, has) ∷ (0, has_not) ∷ []) may

-- the item whose four bytes write a number: "role 4, name 14, expression 14"
abbrev pub item_of_word : ℕ → Item
item_of_word w = record { role = w / 2 ^ 28 % 2 ^ 4; name = w / 2 ^ 14 % 2 ^ 14; expression = w / 2 ^ 0 % 2 ^ 14 }
