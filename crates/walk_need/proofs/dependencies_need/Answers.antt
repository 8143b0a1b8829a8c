use mathlib.Core.Path.{refl}
use Rattle.std.proofs.lemmas.Result.{err_from_is_err_and}
use Rattle.image.proofs.CallLaws.{on_accepted, on_refused}
use Rattle.walk.specs.Outcome.{question}
use Rattle.walk_need.specs.Outcome.{lent, fit_rules, needing}
use Rattle.walk_need.proofs.dependencies_need.Goals as goal

pub returns-in_err-image : goal.returns-in_err-image
returns-in_err-image c =
    let p = err_from_is_err_and c.from_residual.result c.from_residual.ensures.1 in
    rw (p.1, p.2) (on_refused needing (question _ _ _ _) lent _ (fit_rules (question _ _ _ _)) refl (λ n. refl) c.in_err-image.ensures.refused)

pub returns : goal.returns
returns c = on_accepted needing (question _ _ _ _) lent _ (fit_rules (question _ _ _ _)) refl c.in_ok-image.ensures.accepted.1 (rw c.in_ok-image.ensures.accepted.0 at c.checked.ensures)
