use Rattle.semantics.specs.Base.{each}
use Rattle.image_fields.specs.Image.{decode}
use Rattle.index.proofs.IndexLaws.{Entering}
use Rattle.index.proofs.enter_all.Given as goal

abbrev pub invariant-loop-i : goal.invariant-loop-i
invariant-loop-i l = Entering (each (λ x. x.items) (decode l.image.bytes.now).exprs) l.initial.table l.table l.i
