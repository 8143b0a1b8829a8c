use Prim.Native.Nat.{◌<◌}
use native.Mathlib.Omega.{arith}
use Rattle.image_fields.proofs.FieldLaws.{word_lt}
use Rattle.resolve_settle.proofs.ChainLaws.{unchaining_start, event_in, unchaining_more, falls_on, unchaining_done}
use Rattle.resolve_settle.proofs.settle_chain.Goals as goal
use Rattle.resolve_settle.proofs.settle_chain.Goals.{After-two}

pub loop-h-init : goal.loop-h-init
loop-h-init c = unchaining_start _ _ _ c.requires

pub overflow_mul-at : goal.overflow_mul-at
overflow_mul-at c = omega (arith, event_in c.loop-h.invariant c.loop-h-test.true)

pub two-requires : goal.two-requires
two-requires c = omega (arith, event_in c.loop-h.invariant c.loop-h-test.true)

few : (c : After-two) → c.two.result < 65536
few c = rw c.two.ensures (word_lt _ (λ i. (c.type_inv.working i).fits) _ 2)

pub overflow_mul-two : goal.overflow_mul-two
overflow_mul-two c = omega (arith, few ((goal.at.overflow_mul-two c).After-two))

pub put16-requires : goal.put16-requires
put16-requires c = omega (arith, few ((goal.at.put16-requires c).After-two))

pub overflow_add-at : goal.overflow_add-at
overflow_add-at c = omega (arith, event_in c.loop-h.invariant c.loop-h-test.true)

pub two-h-requires : goal.two-h-requires
two-h-requires c = omega (arith, event_in c.loop-h.invariant c.loop-h-test.true)

pub loop-h-smaller : goal.loop-h-smaller
loop-h-smaller c = falls_on c.loop-h.invariant c.loop-h-test.true c.two-h.ensures

pub loop-h-preserved : goal.loop-h-preserved
loop-h-preserved c = unchaining_more c.loop-h.invariant c.loop-h-test.true c.two.ensures c.two-h.ensures c.put16.ensures

pub returns : goal.returns
returns c = unchaining_done c.loop-h.invariant c.loop-h-test.false
