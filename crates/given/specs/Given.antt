-- The tables that a call is given, as the definitions read them.
use Rattle.std.specs.Prelude.{List, ℕ}
use Rattle.semantics.specs.Resolution.{Tables}
use Rattle.given.specs.Bindings.{index_in}
use Rattle.given.specs.Resolutions.{resolution_in}

-- a resolution table and a binding table
abbrev pub given : List ℕ → List ℕ → Tables
given resolutions bindings = record { index = index_in bindings; resolution = resolution_in resolutions }
