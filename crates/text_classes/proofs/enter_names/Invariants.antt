use Rattle.text_classes.proofs.EnterLaws.{Going}
use Rattle.text_classes.proofs.enter_names.Given as goal

abbrev pub invariant-loop-n : goal.invariant-loop-n
invariant-loop-n l = Going l.image.bytes.now l.initial.class l.initial.buckets l.initial.next l.class l.buckets l.next l.n
