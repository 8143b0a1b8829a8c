use Rattle.lent.proofs.FillLaws.{Filling, none_each}
use Rattle.lent.proofs.fill_none.Given as goal

abbrev pub invariant-loop-n : goal.invariant-loop-n
invariant-loop-n l = Filling none_each l.count l.initial.entries l.entries l.n
