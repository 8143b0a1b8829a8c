use Rattle.text_classes.proofs.SortLaws.{Classing}
use Rattle.text_classes.proofs.class_all.Given as goal

abbrev pub invariant-loop-x : goal.invariant-loop-x
invariant-loop-x l = Classing l.image.bytes.now l.initial.class l.class l.x
