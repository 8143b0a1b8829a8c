use Rattle.image_fields.proofs.FieldLaws.{word_lt}
use Rattle.replay.proofs.cases.word.Goals as goal

pub returns : goal.returns
returns c = rw c.four.ensures (word_lt _ (λ i. (c.type_inv.bytes i).fits) _ 4)
