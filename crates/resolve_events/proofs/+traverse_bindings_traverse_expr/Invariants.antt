use Rattle.resolve_events.specs.Inside.Pass.{sheet}
use Rattle.resolve_events.proofs.LoopLaws.{turns_left, Going}
use Prim.Native.Nat.{◌+◌, ◌*◌}
use Rattle.resolve_events.proofs.+traverse_bindings_traverse_expr.Given as goal

abbrev pub decreases-traverse_bindings : goal.decreases-traverse_bindings
decreases-traverse_bindings l = 2 * l.e

abbrev pub decreases-traverse_expr : goal.decreases-traverse_expr
decreases-traverse_expr l = 2 * l.e + 1

abbrev pub invariant-traverse_bindings-loop-k : goal.invariant-traverse_bindings-loop-k
invariant-traverse_bindings-loop-k l = Going l.image.bytes.now l.e l.with (sheet l.initial.table l.initial.working l.at) (sheet l.table l.working l.now_at) l.round l.outside l.k

abbrev pub decreases-traverse_bindings-loop-k : goal.decreases-traverse_bindings-loop-k
decreases-traverse_bindings-loop-k l = turns_left l.round l.k
