use Rattle.text_classes.proofs.SortLaws.{Keeping}
use Rattle.text_classes.proofs.keep_listed.Given as goal

abbrev pub invariant-loop-x : goal.invariant-loop-x
invariant-loop-x l = Keeping l.initial.class l.class l.order
