use Rattle.semantics.specs.Tree.{expr_at}
use Rattle.image_fields.specs.Image.{decode}
use Rattle.resolve_counts.proofs.RoomLaws.{Pushing}
use Rattle.resolve_counts.proofs.push.Given as goal

abbrev pub invariant-loop-k : goal.invariant-loop-k
invariant-loop-k l = Pushing l.image.bytes.now (expr_at (decode l.image.bytes.now) l.e).items l.v l.count l.initial.room l.room l.leaves l.k
