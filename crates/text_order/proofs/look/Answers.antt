use Prim.Native.Nat.{◌+◌, ◌-◌, ◌/◌}
use native.Mathlib.Omega.{arith}
use Rattle.text_order.proofs.RisingLaws.{looking_start, looking_found, looking_low, looking_high, looking_none}
use Rattle.text_order.proofs.look.Goals as goal

pub loop-low-preserved-in-Less : goal.loop-low-preserved-in-Less
loop-low-preserved-in-Less c = looking_low c.requires.ordered c.loop-low.invariant (c.loop-low.low + (c.loop-low.high - c.loop-low.low) / 2) (omega arith)
    (omega (arith, c.loop-low-test.true)) c.from-z.ensures c.text.ensures c.text-text.ensures c.compare.ensures c.in-Less.is

pub returns-in-Equal : goal.returns-in-Equal
returns-in-Equal c = looking_found c.requires.ordered c.loop-low.invariant (c.loop-low.low + (c.loop-low.high - c.loop-low.low) / 2) (omega arith)
    (omega (arith, c.loop-low-test.true)) c.from-z.ensures c.text.ensures c.text-text.ensures c.compare.ensures c.in-Equal.is

pub loop-low-preserved : goal.loop-low-preserved
loop-low-preserved c = looking_high c.requires.ordered c.loop-low.invariant (c.loop-low.low + (c.loop-low.high - c.loop-low.low) / 2) (omega arith)
    (omega (arith, c.loop-low-test.true)) c.from-z.ensures c.text.ensures c.text-text.ensures c.compare.ensures c.in-Greater.is

pub returns : goal.returns
returns c = looking_none c.requires.ordered c.loop-low.invariant c.loop-low-test.false
