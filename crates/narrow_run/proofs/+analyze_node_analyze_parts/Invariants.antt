use Prim.Native.Nat.{◌+◌, ◌*◌}
use mathlib.Core.Path.{◌≡◌}
use Rattle.narrow_run.specs.Inside.Run.{sheet, outcome}
use Rattle.narrow_run.proofs.RunLaws.{Turning, Going}
use Rattle.narrow_run.proofs.+analyze_node_analyze_parts.Given as goal

abbrev pub decreases-analyze_node : goal.decreases-analyze_node
decreases-analyze_node l = 2 * l.c + 1

abbrev pub decreases-analyze_parts : goal.decreases-analyze_parts
decreases-analyze_parts l = 2 * l.c

abbrev pub invariant-analyze_node-loop-state : goal.invariant-analyze_node-loop-state
invariant-analyze_node-loop-state l = Turning l.image.bytes.now l.resolutions l.bindings l.initial.c (outcome l.initial.then_from) (outcome l.initial.else_from)
    (sheet l.initial.state l.initial.then_list l.initial.else_list) l.c (outcome l.then_from) (outcome l.else_from)
    (sheet l.state l.then_list l.else_list)

abbrev pub decreases-analyze_node-loop-state : goal.decreases-analyze_node-loop-state
decreases-analyze_node-loop-state l = l.c

abbrev pub invariant-analyze_parts-loop-k : goal.invariant-analyze_parts-loop-k
invariant-analyze_parts-loop-k l = Going l.image.bytes.now l.resolutions l.bindings l.c l.fn.connective (outcome l.fn.then_from) (outcome l.fn.else_from)
    (sheet l.initial.state l.initial.then_list l.initial.else_list) l.k
    (sheet l.state l.then_list l.else_list)
    × (l.k-end ≡ 2)
