use Rattle.semantics.specs.Tree.{expr_at}
use Rattle.image_fields.specs.Image.{decode}
use Rattle.walk_counts.proofs.PushLaws.{Pushing}
use Rattle.walk_counts.proofs.push.Given as goal

abbrev pub invariant-loop-k : goal.invariant-loop-k
invariant-loop-k l = Pushing l.image.bytes.now l.fn.rule
    (expr_at (decode l.image.bytes.now) l.e).items l.v l.k-end l.initial.visits l.visits l.k
