-- The cases of specs/OwnBuiltins.antt, computed from the definitions.
use mathlib.Core.Path.{refl}
use Rattle.semantics.specs.OwnBuiltins.{asking, reading, null_told, field_told, nothing_told, from_builtins, from_another, from_other, given, under_with, own_tables}
use Rattle.semantics.specs.OwnBuiltins.{given_tables, own_builtins, Read, untrue, NothingUntrue}
use Rattle.semantics.proofs.Cases.{computed_Cases}

unfoldable computed_OwnBuiltins : Unit {0}
unfolding computed_Cases asking reading null_told field_told nothing_told from_builtins from_another from_other given under_with own_tables given_tables
computed_OwnBuiltins = tt

pub own-builtins_read : Read own_builtins
unfolding computed_OwnBuiltins own_builtins
own-builtins_read = refl

pub nothing-untrue : NothingUntrue
unfolding computed_Cases untrue
nothing-untrue = refl
