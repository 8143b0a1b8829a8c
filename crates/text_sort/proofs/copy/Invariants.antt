use Rattle.text_sort.proofs.SortLaws.{Copying}
use Rattle.text_sort.proofs.copy.Given as goal

abbrev pub invariant-loop-k : goal.invariant-loop-k
invariant-loop-k l = Copying l.initial.to l.from l.to l.k
