use mathlib.Core.Path.{refl}
use Rattle.std.proofs.lemmas.Result.{err_from_is_err_and}
use Rattle.image.proofs.CallLaws.{on_accepted, on_refused}
use Rattle.walk.specs.Outcome.{question, lent, fit_rules, walking}
use Rattle.walk.proofs.name_dependencies.Goals as goal

pub returns-in_err-image : goal.returns-in_err-image
returns-in_err-image c =
    let p = err_from_is_err_and c.from_residual.result c.from_residual.ensures.1 in
    rw (p.1, p.2) (on_refused walking (question _ _ _ _) (lent _ _ _ _) _ (fit_rules (question _ _ _ _) (lent _ _ _ _)) refl (λ n. refl) c.in_err-image.ensures.refused)

pub returns : goal.returns
returns c = on_accepted walking (question _ _ _ _) (lent _ _ _ _) _ (fit_rules (question _ _ _ _) (lent _ _ _ _)) refl c.in_ok-image.ensures.accepted.1 (rw c.in_ok-image.ensures.accepted.0 at c.checked.ensures)
