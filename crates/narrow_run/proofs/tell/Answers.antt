use mathlib.Core.Path.{sym, ◌∙◌}
use native.Mathlib.Omega.{arith}
use Rattle.narrow_run.proofs.RunLaws.{fed-nothing, fed-one, chosen-few}
use Rattle.narrow_run.proofs.tell.Goals as goal

pub returns-in_default : goal.returns-in_default
returns-in_default c = fed-nothing _ _ _ _ (sym c.in_default.is ∙ c.chosen.ensures)

pub overflow_add-told : goal.overflow_add-told
overflow_add-told c = omega
    (arith, c.requires.bounded.name, chosen-few _ c.requires.bounded _ (sym c.in-Some.is ∙ c.chosen.ensures))

pub returns : goal.returns
returns c = fed-one _ _ _ _ (sym c.in-Some.is ∙ c.chosen.ensures) c.put32.ensures
