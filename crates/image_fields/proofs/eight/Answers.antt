use Prim.Native.Nat.{◌<◌}
use native.Mathlib.Omega.{arith}
use Rattle.image_fields.proofs.FieldLaws.{word_lt, four_and_four}
use Rattle.image_fields.proofs.eight.Goals as goal
use Rattle.image_fields.proofs.eight.Goals.{After-four, After-four-2}

-- four bytes are below 2 ^ 32
few : (c : After-four) → c.four.result < 4294967296
few c = rw c.four.ensures (word_lt _ (λ i. (c.type_inv.image i).fits) _ 4)

pub overflow_mul-result : goal.overflow_mul-result
overflow_mul-result c = let l = few ((goal.at.overflow_mul-result c).After-four) in omega arith

few-2 : (c : After-four-2) → c.four-2.result < 4294967296
few-2 c = rw c.four-2.ensures (word_lt _ (λ i. (c.type_inv.image i).fits) _ 4)

pub overflow_add-result : goal.overflow_add-result
overflow_add-result c = let l = few ((goal.at.overflow_add-result c).After-four) in let m = few-2 ((goal.at.overflow_add-result c).After-four-2) in omega arith

pub returns : goal.returns
returns c = four_and_four _ _ c.four.ensures c.four-2.ensures
