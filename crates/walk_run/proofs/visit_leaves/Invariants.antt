use mathlib.Core.Path.{◌≡◌}
use lib.ListN.{length}
use Rattle.walk_run.proofs.LeafLaws.{Leaf}
use Rattle.walk_run.proofs.visit_leaves.Given as goal

abbrev pub invariant-loop-k : goal.invariant-loop-k
invariant-loop-k l = Leaf l.image.bytes.now l.resolutions l.e l.binding l.force l.initial.state l.initial.edges l.state l.edges l.k
    × (length l.edges ≡ length l.initial.edges)
