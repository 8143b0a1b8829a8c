use mathlib.Core.Path.{◌≡◌}
use Prim.Native.Nat.{◌+◌, ◌-◌, ◌*◌}
use lib.ListN.{length}
use Rattle.image_fields.specs.Image.{decode}
use Rattle.given.specs.Given.{given}
use Rattle.walk_guard.specs.Inside.Added.{Ruled}
use Rattle.walk_run.specs.Inside.Run.{sheet}
use Rattle.walk_run.specs.Inside.Items.{Going}
use Rattle.walk_run.proofs.+traverse_bindings_traverse_expr.Given as goal

abbrev pub decreases-traverse_bindings : goal.decreases-traverse_bindings
decreases-traverse_bindings l = 2 * l.e

abbrev pub decreases-traverse_expr : goal.decreases-traverse_expr
decreases-traverse_expr l = 2 * l.e + 1

abbrev pub invariant-traverse_bindings-loop-k : goal.invariant-traverse_bindings-loop-k
invariant-traverse_bindings-loop-k l = Going l.image.bytes.now l.resolutions l.bindings l.e
    l.binding l.force l.from (sheet l.initial.state l.initial.edges l.initial.narrowings l.initial.exprs l.initial.working)
    (sheet l.state l.edges l.narrowings l.exprs l.working) l.k
    × Ruled (decode l.image.bytes.now) (given l.resolutions l.bindings) l.e l.rule l.k
    × (length l.edges ≡ length l.initial.edges)
    × (length l.exprs ≡ length l.initial.exprs)

abbrev pub decreases-traverse_bindings-loop-k : goal.decreases-traverse_bindings-loop-k
decreases-traverse_bindings-loop-k l = l.count - l.k
