use Prim.Native.Nat.{◌-◌}
use Rattle.text_order.proofs.RisingLaws.{Looking}
use Rattle.text_order.proofs.look.Given as goal

abbrev pub invariant-loop-low : goal.invariant-loop-low
invariant-loop-low l = Looking l.image.bytes.now l.order l.x l.low l.high

abbrev pub decreases-loop-low : goal.decreases-loop-low
decreases-loop-low l = l.high - l.low
