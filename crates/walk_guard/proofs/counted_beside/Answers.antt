use Rattle.walk_guard.specs.Inside.Added.{beside}
use Rattle.walk_guard.proofs.counted_beside.Goals as goal

pub returns-in-ForTrue : goal.returns-in-ForTrue
unfolding beside
returns-in-ForTrue c = rw c.in-ForTrue.is

pub returns-in-ForFalse : goal.returns-in-ForFalse
unfolding beside
returns-in-ForFalse c = rw c.in-ForFalse.is

pub returns-in-Neither : goal.returns-in-Neither
unfolding beside
returns-in-Neither c = rw c.in-Neither.is
