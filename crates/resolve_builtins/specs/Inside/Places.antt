-- `lookup_global_builtin` as a number.
use Rattle.std.specs.Prelude.{ℕ}
use Rattle.semantics.specs.Codes.{builtin_count}
use Rattle.semantics.specs.Tree.{Text}
use Rattle.semantics.specs.Resolution.{place_of}
use Rattle.image_fields.specs.Inside.Numbers.{number_or}

-- "builtin (place 0 to 21 in `GLOBAL_BUILTIN_NAMES`)", or how many there are for a text that is none of them
unfoldable pub place_number : Text → ℕ
place_number x = number_or builtin_count (place_of x)
