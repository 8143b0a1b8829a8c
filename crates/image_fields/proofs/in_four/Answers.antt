use native.Mathlib.Omega.{arith}
use Rattle.image_fields.proofs.FieldLaws.{taken}
use Rattle.image_fields.proofs.in_four.Goals as goal

pub returns : goal.returns
returns c = taken _ (λ i. (c.type_inv.image i).fits) _ 4 _ _ _ (omega (arith, c.requires)) c.four.ensures c.part.ensures
