use Prim.Native.Nat.{◌-◌, ◌≤◌}
use Rattle.walk_places.proofs.shift_for.Given as goal

abbrev pub invariant-loop-shift : goal.invariant-loop-shift
invariant-loop-shift l = l.shift ≤ 12

abbrev pub decreases-loop-shift : goal.decreases-loop-shift
decreases-loop-shift l = 12 - l.shift
