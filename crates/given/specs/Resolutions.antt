-- A resolution table that is given to a call: how it is read, and its rule (refusal 7).
use Rattle.std.specs.Prelude.{ℕ, ◌*◌, Bool, cond, ◌&&◌, List, [], ◌∷◌, eqb, ltb, length}
use Rattle.semantics.specs.Codes.{kinds, tags, builtin_count, widths, bits}
use Rattle.semantics.specs.Base.{pick, all}
use Rattle.semantics.specs.Tree.{Tree, expr_at}
use Rattle.semantics.specs.Resolution.{Resolution, unresolved, definition, builtin, within}
use Rattle.image_fields.specs.Image.{field_in, expr_count, decode}

-- "Resolution table, 2 bytes an expression: tag 2, value 14."
abbrev pub tag_of : List ℕ → ℕ → ℕ
tag_of table e = field_in table (widths.entry * e) 0 bits.tag

abbrev pub value_of : List ℕ → ℕ → ℕ
value_of table e = field_in table (widths.entry * e) bits.tag bits.number

-- "Tag 0 none (value 0), 1 definition .., 2 builtin .., 3 the innermost With"
unfoldable pub resolution_in : List ℕ → ℕ → Resolution
resolution_in table e =
    pick (tag_of table e)
    ((tags.Definition, definition (value_of table e)) ∷ (tags.Builtin, builtin (value_of table e)) ∷ (tags.With, within (value_of table e)) ∷ [])
    unresolved

-- "Tag 0 none (value 0), 1 definition (a name below N), 2 builtin (place 0 to 21 ..), 3 the innermost With (an expression of that kind)"
unfoldable pub value_fits : Tree → ℕ → ℕ → Bool
value_fits t tag value =
    pick tag
    ((tags.None, eqb value 0) ∷ (tags.Definition, ltb value (length t.names)) ∷ (tags.Builtin, ltb value builtin_count) ∷ [])
    (ltb value (length t.exprs) && eqb (expr_at t value).kind kinds.With)

-- "Only References may be nonzero."
unfoldable pub entry_fits : Tree → List ℕ → ℕ → Bool
entry_fits t table e =
    cond (eqb (expr_at t e).kind kinds.Reference) (value_fits t (tag_of table e) (value_of table e)) (eqb (tag_of table e) tags.None && eqb (value_of table e) 0)

-- 7: "wrong table length, or an entry outside what its section below allows"
unfoldable pub resolutions_fit : List ℕ → List ℕ → Bool
resolutions_fit s table = eqb (length table) (widths.entry * expr_count s) && all (entry_fits (decode s) table) (expr_count s)
