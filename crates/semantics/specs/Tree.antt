-- The lowered tree, in the numbers of document 01, "The tree image". `none_number` stands for no text, no name, no expression.
use Rattle.std.specs.Prelude.{Bool, true, false, ◌&&◌, List, [], ◌∷◌, map, ℕ, zero, suc, eqb, get_or, Option, Some}
use Prim.Native.Char.{code}
use Prim.Native.String.{String, len, char_at}
use Rattle.semantics.specs.Codes.{none_number, kinds, details, roles, name_kinds}
use Rattle.semantics.specs.Base.{only, keep, empty, last, ◌>>=◌}

-- a text is its bytes ("Our own calls compare texts as bytes")
abbrev pub Text : Type 0
Text = List ℕ

-- a text that is written here, in plain letters: n of them from byte i on, and all
abbrev pub bytes_from : String → ℕ → ℕ → Text
bytes_from s i zero = []
bytes_from s i (suc n) = code (char_at s i) ∷ bytes_from s (suc i) n

abbrev pub bytes : String → Text
bytes s = bytes_from s 0 (len s)

-- "Item, 32: role 4, name 14, expression 14"
pub record Item : Type 0 where
  pub role : ℕ
  pub name : ℕ
  pub expression : ℕ

-- "Expression, 64: kind 5, detail 5, text 14, first item 20, item count 20": the items stand here as a list
pub record Expr : Type 0 where
  pub kind : ℕ
  pub detail : ℕ
  pub text : ℕ
  pub items : List Item

-- "Name, 32: text 14, kind 3 (0 to 4 as in `NameKind`)"
pub record Name : Type 0 where
  pub text : ℕ
  pub kind : ℕ

-- "Tables follow in that order": expressions, names, texts; and the header's entry
pub record Tree : Type 0 where
  pub exprs : List Expr
  pub names : List Name
  pub texts : List Text
  pub entry : ℕ

-- "16383 in a 14-bit field outside the header means none"
unfoldable pub is_none : ℕ → Bool
is_none x = eqb x none_number

-- what stands past the end of a table: a Missing without items, a name without text, an item with nothing
abbrev pub no_expr : Expr
no_expr = record { kind = kinds.Missing; detail = 0; text = none_number; items = [] }

abbrev pub no_name : Name
no_name = record { text = none_number; kind = name_kinds.LetIn }

abbrev pub no_item : Item
no_item = record { role = roles.Child; name = none_number; expression = none_number }

-- an expression, a name, a text by its number; an item by its owner and its number among the owner's items
unfoldable pub expr_at : Tree → ℕ → Expr
expr_at t e = get_or t.exprs e no_expr

unfoldable pub name_at : Tree → ℕ → Name
name_at t n = get_or t.names n no_name

unfoldable pub text_at : Tree → ℕ → Text
text_at t x = get_or t.texts x []

unfoldable pub item_at : Tree → ℕ → ℕ → Item
item_at t e k = get_or (expr_at t e).items k no_item

-- two texts have the same bytes ("Our own calls compare texts as bytes")
unfoldable pub same : Text → Text → Bool
same [] [] = true
same [] (y ∷ ys) = false
same (x ∷ xs) [] = false
same (x ∷ xs) (y ∷ ys) = eqb x y && same xs ys

-- "Kinds 0 to 16 follow `Expr`": an expression of a kind
unfoldable pub is_kind : Tree → ℕ → ℕ → Bool
is_kind t k e = eqb (expr_at t e).kind k

-- "children as `Expr` lists its fields": the expression of an item
unfoldable pub part : Tree → ℕ → ℕ → ℕ
part t e k = (item_at t e k).expression

-- "Roles: 0 child, 1 path key, 2 default, ..": the items of an expression in a role
unfoldable pub with_role : Tree → ℕ → ℕ → List Item
with_role t e r = keep (λ i. eqb i.role r) (expr_at t e).items

-- `Expr::Reference(name)`: the number of its text
unfoldable pub reference : Tree → ℕ → Option ℕ
reference t e = only (is_kind t kinds.Reference e) (expr_at t e).text

-- `Expr::Literal(Literal::String(text))`: the number of its text
unfoldable pub string : Tree → ℕ → Option ℕ
string t e = only (is_kind t kinds.Literal e && eqb (expr_at t e).detail details.String) (expr_at t e).text

-- `Expr::Apply { fun, arg }`
unfoldable pub apply : Tree → ℕ → Option (ℕ × ℕ)
apply t e = only (is_kind t kinds.Apply e) (part t e 0, part t e 1)

-- `attrpath` of a Select or a HasAttr: the expressions of its keys
unfoldable pub path : Tree → ℕ → List ℕ
path t e = map (λ i. i.expression) (with_role t e roles.PathKey)

-- `default_expr: None`
unfoldable pub plain : Tree → ℕ → Bool
plain t e = empty (with_role t e roles.Default)

-- `Expr::Select { set, attrpath, default_expr: None }`
unfoldable pub select : Tree → ℕ → Option (ℕ × List ℕ)
select t e = only (is_kind t kinds.Select e && plain t e) (part t e 0, path t e)

-- the text of the last key of such a Select, where that is a String literal
unfoldable pub last_key : Tree → ℕ → Option Text
last_key t e = do
  s ← select t e
  k ← last s.1
  x ← string t k
  Some (text_at t x)
