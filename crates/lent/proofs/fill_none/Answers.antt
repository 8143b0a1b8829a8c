use Rattle.lent.proofs.FillLaws.{front_start, none_more, front_done}
use Rattle.lent.proofs.fill_none.Goals as goal

pub loop-n-init : goal.loop-n-init
loop-n-init c = front_start _ _ c.requires.1

pub loop-n-preserved : goal.loop-n-preserved
loop-n-preserved c = none_more c.loop-n.invariant c.loop-n-test.true c.put16.ensures

pub returns : goal.returns
returns c = front_done _ _ c.requires.1 c.loop-n.invariant c.loop-n-test.false
