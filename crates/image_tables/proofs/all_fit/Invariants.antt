use Rattle.image_tables.proofs.PassLaws.{Passed}
use Rattle.image_tables.proofs.all_fit.Given as goal

abbrev pub invariant-loop-e : goal.invariant-loop-e
invariant-loop-e l = Passed l.image l.next l.at l.e
