use Rattle.walk.specs.Outcome.{cleared}
use Rattle.walk.proofs.EndLaws.{lent_is}
use Rattle.walk.proofs.ended.clear_all.Goals as goal

pub returns : goal.returns
unfolding cleared
returns c = lent_is c.clear.ensures c.clear-2.ensures c.clear-3.ensures c.clear-4.ensures
