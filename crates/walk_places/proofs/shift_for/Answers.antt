use native.Mathlib.Omega.{arith}
use Rattle.walk_places.proofs.PlaceLaws.{shift_small}
use Rattle.walk_places.proofs.shift_for.Goals as goal

pub overflow_add-shift : goal.overflow_add-shift
overflow_add-shift c = omega (arith, c.loop-shift.invariant)

pub loop-shift-smaller : goal.loop-shift-smaller
loop-shift-smaller c = omega (arith, shift_small c.requires c.loop-shift.invariant c.loop-shift-test.true)

pub loop-shift-preserved : goal.loop-shift-preserved
loop-shift-preserved c = omega (arith, shift_small c.requires c.loop-shift.invariant c.loop-shift-test.true)

pub returns : goal.returns
returns c = (omega (arith, c.loop-shift.invariant), omega (arith, c.loop-shift-test.false))
