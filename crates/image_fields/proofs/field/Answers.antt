use Rattle.image_fields.proofs.FieldLaws.{loaded}
use Rattle.image_fields.proofs.field.Goals as goal

pub returns : goal.returns
returns c = loaded _ (λ i. (c.type_inv.image i).fits) _ _ _ c.word-v.ensures c.part.ensures
