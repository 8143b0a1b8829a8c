use Rattle.image_fields.proofs.FieldLaws.{four_read}
use Rattle.image_fields.proofs.four.Goals as goal

pub returns : goal.returns
returns c = four_read _ _ c.from_be_bytes.ensures
