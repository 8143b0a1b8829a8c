-- A binding table that is given to a call: how it is read, and its rule (refusal 7).
use Rattle.std.specs.Prelude.{ℕ, ◌+◌, ◌*◌, Bool, cond, ◌&&◌, ◌||◌, List, eqb, leb, ltb, length, Option, Some, None}
use Rattle.semantics.specs.Codes.{widths, bits}
use Rattle.semantics.specs.Base.{all}
use Rattle.semantics.specs.Tree.{is_none}
use Rattle.image_fields.specs.Image.{field_in, expr_count, name_count}

-- "Table: 2 bytes a name, zero 2, expression 14 or 16383."
abbrev pub spare_of : List ℕ → ℕ → ℕ
spare_of table n = field_in table (widths.entry * n) 0 bits.tag

abbrev pub expr_of : List ℕ → ℕ → ℕ
expr_of table n = field_in table (widths.entry * n) bits.tag bits.number

-- the expression that the table gives a name, if any: a name past its end has none
unfoldable pub index_in : List ℕ → ℕ → Option ℕ
index_in table n = cond (leb (widths.entry * n + widths.entry) (length table)) (cond (is_none (expr_of table n)) None (Some (expr_of table n))) None

-- "an entry outside what its section below allows": zero spare bits, and an expression below E or 16383
unfoldable pub entry_fits : List ℕ → List ℕ → ℕ → Bool
entry_fits s table n = eqb (spare_of table n) 0 && (is_none (expr_of table n) || ltb (expr_of table n) (expr_count s))

-- 7: "wrong table length, or an entry outside what its section below allows"
unfoldable pub bindings_fit : List ℕ → List ℕ → Bool
bindings_fit s table = eqb (length table) (widths.entry * name_count s) && all (entry_fits s table) (name_count s)
