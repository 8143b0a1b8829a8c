use mathlib.Core.Path.{ap}
use mathlib.Core.Bool.{not}
use borrow.Author.Tests.{not-false}
use Rattle.texts.proofs.PairLaws.{left_back}
use Rattle.texts.proofs.left_of_runs.Goals as goal

pub loop-left-preserved : goal.loop-left-preserved
loop-left-preserved g c = left_back c.requires.lengths.1 c.loop-left.invariant _ c.loop-left-test.true
    (c.alike_run.ensures (not-false _ (ap not c.if-not-alike_run.false)))
