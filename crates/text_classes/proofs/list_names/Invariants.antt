use Rattle.text_classes.proofs.SortLaws.{Listing}
use Rattle.text_classes.proofs.list_names.Given as goal

abbrev pub invariant-loop-n : goal.invariant-loop-n
invariant-loop-n l = Listing l.image.bytes.now l.initial.class l.initial.order l.class l.order l.count l.n
