use Rattle.narrow_run.specs.Inside.Run.{outcome, flipped}
use Rattle.narrow_run.proofs.turned.Goals as goal

pub returns-in-ForTrue : goal.returns-in-ForTrue
unfolding outcome flipped
returns-in-ForTrue c = rw c.in-ForTrue.is

pub returns-in-ForFalse : goal.returns-in-ForFalse
unfolding outcome flipped
returns-in-ForFalse c = rw c.in-ForFalse.is

pub returns-in-Neither : goal.returns-in-Neither
unfolding outcome flipped
returns-in-Neither c = rw c.in-Neither.is
