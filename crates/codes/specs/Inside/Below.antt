-- A bound on what a lookup finds.
use Rattle.std.specs.Prelude.{ℕ, ◌<◌, Option, Some, None}

-- what was found is below a bound
abbrev pub Below : ℕ → Option ℕ → Type 0
Below bound (Some n) = n < bound
Below bound None = Unit {0}
