use Rattle.texts.specs.Inside.Ends.{Left}
use Rattle.texts.proofs.left_of_runs.Given as goal

abbrev pub invariant-loop-left : goal.invariant-loop-left
invariant-loop-left g l = Left l.a l.b l.left

abbrev pub decreases-loop-left : goal.decreases-loop-left
decreases-loop-left g l = l.left
