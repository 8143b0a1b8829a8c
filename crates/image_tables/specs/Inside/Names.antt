-- What the private functions of the code promise each other.
use Rattle.std.specs.Prelude.{ℕ, Bool, ◌&&◌, List, eqb, ltb, leb}
use Rattle.semantics.specs.Codes.{name_kinds}
use Rattle.image_fields.specs.Image.{field_in}

-- rule 4 of the name at a byte
unfoldable pub name_stands : List ℕ → ℕ → ℕ → Bool
name_stands s at texts = leb (field_in s at 14 3) name_kinds.PatField && ltb (field_in s at 0 14) texts && eqb (field_in s at 17 15) 0
