-- A number that may be missing, as the code hands it on.
use Rattle.std.specs.Prelude.{ℕ, Option, Some, None}

-- the number that was found, or another that stands for none
unfoldable pub number_or : ℕ → Option ℕ → ℕ
number_or d None = d
number_or d (Some n) = n
