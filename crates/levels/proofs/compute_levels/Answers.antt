use mathlib.Core.Path.{refl}
use Rattle.std.proofs.lemmas.Result.{err_from_is_err_and}
use Rattle.image.proofs.CallLaws.{on_accepted, on_refused}
use Rattle.levels.specs.Outcome.{lent, own_rules, levelling}
use Rattle.levels.proofs.OutcomeLaws.{answered}
use Rattle.levels.proofs.compute_levels.Goals as goal

pub returns-in_err-image : goal.returns-in_err-image
returns-in_err-image c =
    let p = err_from_is_err_and c.from_residual.result c.from_residual.ensures.1 in
    rw (p.1, p.2) (on_refused levelling _ lent _ own_rules refl (λ n. refl) c.in_err-image.ensures.refused)

pub returns : goal.returns
returns c = on_accepted levelling _ lent _ own_rules refl c.in_ok-image.ensures.accepted.1 (answered _ (rw c.in_ok-image.ensures.accepted.0 at c.levels_of.ensures))
