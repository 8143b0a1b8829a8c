use Rattle.std.specs.Prelude.{Some}
use mathlib.Core.Path.{◌∙◌}
use mathlib.Core.List.{[]}
use Rattle.narrow_texts.proofs.NumberLaws.{below}
use Rattle.narrow_texts.proofs.NameLaws.{entry-inside, builtin-below, builtin_there}
use Rattle.narrow_texts.proofs.NameLaws.{global_none, global_unresolved, global_else, global_asked}
use mathlib.Core.Path.{ap}
use Rattle.narrow_texts.proofs.names.global_name.Goals as goal

pub returns-in_err-name : goal.returns-in_err-name
returns-in_err-name c = rw c.from_residual.ensures (global_none _ _ [] _ c.reference.ensures c.in_err-name.was)

pub get-requires : goal.get-requires
get-requires c = entry-inside _ _ c.requires.1 _ c.requires.0

pub returns-in_err-place : goal.returns-in_err-place
returns-in_err-place c = rw c.from_residual-in_err-place.ensures (global_unresolved _ _ [] _ c.reference.ensures _ c.get.ensures c.in_err-place.was)

pub returns-in_default : goal.returns-in_default
returns-in_default c = global_else _ _ [] _ c.reference.ensures _ c.get.ensures _ c.in_ok-place.was c.in_default.not-Builtin

pub text-requires : goal.text-requires
text-requires c = below c.reference.ensures.inside c.in_ok-name.was

pub is_builtin-requires : goal.is_builtin-requires
is_builtin-requires c = builtin-below _ _ c.requires.1 _ c.requires.0
    (builtin_there _ _ [] _ c.reference.ensures _ c.get.ensures (c.in_ok-place.was ∙ ap Some c.in-Builtin.is) c.in_ok-name.was)

pub returns : goal.returns
returns c = rw c.then_some.ensures (global_asked _ _ [] _ c.reference.ensures _ c.get.ensures (c.in_ok-place.was ∙ ap Some c.in-Builtin.is) c.in_ok-name.was
    c.text.ensures c.is_builtin.ensures)
