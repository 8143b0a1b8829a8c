use Rattle.semantics.specs.Tree.{expr_at}
use Rattle.image_fields.specs.Image.{decode}
use Rattle.image_rules.specs.Inside.Machine.{child_below}
use Rattle.image_rules.proofs.ChildLaws.{Passing}
use Rattle.image_rules.proofs.children_fit.Given as goal

abbrev pub invariant-loop-k : goal.invariant-loop-k
invariant-loop-k l = Passing (child_below l.items.owner) (expr_at (decode l.items.image.now) l.items.owner).items l.items.count l.k
