use Rattle.narrow_run.specs.Inside.Run.{outcome, where_true}
use Rattle.narrow_run.proofs.where_true.Goals as goal

pub returns-in-ForTrue : goal.returns-in-ForTrue
unfolding outcome where_true
returns-in-ForTrue c = rw c.in-ForTrue.is

pub returns-in-ForFalse : goal.returns-in-ForFalse
unfolding outcome where_true
returns-in-ForFalse c = rw c.in-ForFalse.is

pub returns-in-Neither : goal.returns-in-Neither
unfolding outcome where_true
returns-in-Neither c = rw c.in-Neither.is
