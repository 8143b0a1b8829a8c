-- An entry of a resolution table, as the code hands it on; and the table as the definitions read it where no index is asked.
use Rattle.std.specs.Prelude.{List, [], ℕ, Option, Some, None}
use Rattle.semantics.specs.Codes.{tags}
use Rattle.semantics.specs.Resolution.{Tables}
use Rattle.given.specs.Given.{given}
use Rattle.given.specs.declared.ResolveResult.{ResolveResult}
use Rattle.given.specs.declared.ResolveResult.TheVariants.{Definition, Builtin, WithExprs}

-- "Tag 0 none (value 0), 1 definition (a name below N), 2 builtin (place 0 to 21 in `GLOBAL_BUILTIN_NAMES`), 3 the innermost With": the tag and the
-- value of each case
unfoldable pub tag_and_value : Option ResolveResult → ℕ × ℕ
tag_and_value (Some (Definition n)) = (tags.Definition, n)
tag_and_value (Some (Builtin p)) = (tags.Builtin, p)
tag_and_value (Some (WithExprs w)) = (tags.With, w)
tag_and_value None = (tags.None, 0)

-- a resolution table alone, for what asks no index
abbrev pub resolved : List ℕ → Tables
resolved resolutions = given resolutions []
