use Rattle.text_classes.proofs.SortLaws.{keeping_more}
use Rattle.text_classes.proofs.keep_listed.Goals as goal

pub loop-x-preserved : goal.loop-x-preserved
loop-x-preserved c = rw (← c.from.ensures) (keeping_more c.loop-x.invariant c.loop-x-test.true c.from.ensures c.requires.all)
