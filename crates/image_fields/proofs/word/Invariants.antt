use Rattle.image_fields.proofs.FieldLaws.{Loading}
use Rattle.image_fields.proofs.word.Given as goal

abbrev pub invariant-loop-i : goal.invariant-loop-i
invariant-loop-i l = Loading l.image l.at l.n l.v l.i
