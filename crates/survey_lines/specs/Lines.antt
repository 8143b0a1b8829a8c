-- The lines of each table, as document 01 prints them: "Fields: steps; expression, tag (`def`, `builtin`, `with`), value; from, to; name, expression;
-- binding, name, sort, value."
use Rattle.std.specs.Prelude.{ℕ, ◌+◌, ◌*◌, ◌/◌, cond, List, [], ◌∷◌, ◌++◌, eqb, length}
use Rattle.semantics.specs.Codes.{tags, widths, bits}
use Rattle.semantics.specs.Base.{pick}
use Rattle.semantics.specs.Tree.{bytes, is_none}
use Rattle.image_fields.specs.Image.{field_in}
use Rattle.given.specs.Resolutions.{tag_of, value_of}
use Rattle.given.specs.Bindings.{expr_of}
use Rattle.survey_lines.specs.Text.{decimal, line, lines}

-- the word of a tag, behind the expression
unfoldable pub tag_word : ℕ → List ℕ
tag_word tag = pick tag ((tags.Definition, bytes " def") ∷ (tags.Builtin, bytes " builtin") ∷ []) (bytes " with")

-- "Tag 0 and a name's 16383 have no line."
unfoldable pub resolution_line : List ℕ → ℕ → List ℕ
resolution_line table e = cond (eqb (tag_of table e) tags.None) [] (decimal e ++ line (tag_word (tag_of table e)) (value_of table e ∷ []))

unfoldable pub bind_line : List ℕ → ℕ → List ℕ
bind_line exprs n = cond (is_none (expr_of exprs n)) [] (line (bytes "bind") (n ∷ expr_of exprs n ∷ []))

-- "edges, 32 (from 14, to 14, zero 4)"
unfoldable pub edge_line : List ℕ → ℕ → List ℕ
edge_line edges i = line (bytes "edge") (field_in edges (widths.edge * i) 0 bits.number ∷ field_in edges (widths.edge * i) bits.number bits.number ∷ [])

-- "recorded narrowings, 64 (binding 14, zero 18, record 32)", "Record, 32: name 14, sort 4, value 14"
unfoldable pub narrow_line : List ℕ → ℕ → List ℕ
narrow_line ns i =
    line (bytes "narrow")
    (field_in ns (widths.recorded * i) 0 bits.number
    ∷ field_in ns (widths.recorded * i) (8 * widths.binding) bits.number
    ∷ field_in ns (widths.recorded * i) (8 * widths.binding + bits.number) bits.sort
    ∷ field_in ns (widths.recorded * i) (8 * widths.binding + bits.number + bits.sort) bits.number
    ∷ [])

-- all lines of a table
unfoldable pub resolution_lines : List ℕ → List ℕ
resolution_lines table = lines (resolution_line table) 0 (length table / widths.entry)

unfoldable pub edge_lines : List ℕ → List ℕ
edge_lines edges = lines (edge_line edges) 0 (length edges / widths.edge)

unfoldable pub bind_lines : List ℕ → List ℕ
bind_lines exprs = lines (bind_line exprs) 0 (length exprs / widths.entry)

unfoldable pub narrow_lines : List ℕ → List ℕ
narrow_lines ns = lines (narrow_line ns) 0 (length ns / widths.recorded)
