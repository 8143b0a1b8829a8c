use native.Mathlib.Omega.{arith}
use Rattle.image_fields.proofs.FieldLaws.{loading_start, loading_more, loading_done}
use Rattle.image_fields.proofs.word.Goals as goal

pub loop-i-init : goal.loop-i-init
loop-i-init c = loading_start _ _ _

pub overflow_mul-v : goal.overflow_mul-v
overflow_mul-v c = let d = c.loop-i.invariant.small (omega arith) in omega arith

pub overflow_add-v : goal.overflow_add-v
overflow_add-v c = let d = c.loop-i.invariant.small (omega arith) in omega arith

pub loop-i-preserved : goal.loop-i-preserved
loop-i-preserved c = loading_more (λ i. (c.type_inv.image i).fits) c.loop-i.invariant c.loop-i-test.true c.from.ensures

pub returns : goal.returns
returns c = loading_done c.loop-i.invariant c.loop-i-test.false
