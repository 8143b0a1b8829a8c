use Rattle.std.specs.Prelude.{Some}
use mathlib.Core.Path.{◌∙◌}
use mathlib.Core.Path.{ap}
use mathlib.Core.List.{[]}
use mathlib.Core.Logic.{inl, inr}
use Rattle.narrow_texts.proofs.NameLaws.{entry-inside, local_definition, local_builtin, local_with, local_none}
use Rattle.narrow_texts.proofs.names.expr_as_local_name.Goals as goal

pub get-requires : goal.get-requires
get-requires c = entry-inside _ _ c.requires.1 _ c.requires.0

pub returns-in_err-name : goal.returns-in_err-name
returns-in_err-name c = rw c.from_residual.ensures (local_none _ _ [] _ _ c.get.ensures c.in_err-name.was)

pub returns-in-Definition : goal.returns-in-Definition
returns-in-Definition c = local_definition _ _ [] _ _ c.get.ensures c.requires.1 c.requires.0 (c.in_ok-name.was ∙ ap Some c.in-Definition.is)

pub returns-in-Builtin : goal.returns-in-Builtin
returns-in-Builtin c = elim c.in-Builtin.is [
  | inl w ↦ local_builtin _ _ [] _ _ c.get.ensures (c.in_ok-name.was ∙ ap Some w.1)
  | inr w ↦ local_with _ _ [] _ _ c.get.ensures (c.in_ok-name.was ∙ ap Some w.1)
]
