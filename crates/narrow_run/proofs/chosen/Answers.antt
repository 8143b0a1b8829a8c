use Rattle.narrow_run.specs.Inside.Run.{outcome, chosen, says_of}
use Rattle.narrow_run.proofs.chosen.Goals as goal

pub returns-in-ForTrue : goal.returns-in-ForTrue
unfolding outcome chosen
returns-in-ForTrue c = rw c.in-ForTrue.is c.says.ensures

pub returns-in-ForFalse : goal.returns-in-ForFalse
unfolding outcome chosen
returns-in-ForFalse c = rw c.in-ForFalse.is c.says-in-ForFalse.ensures

pub returns-in-Neither : goal.returns-in-Neither
unfolding outcome chosen says_of
returns-in-Neither c = rw c.in-Neither.is
