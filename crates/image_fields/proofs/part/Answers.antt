use Rattle.image_fields.proofs.FieldLaws.{power_pos, part-is}
use Rattle.image_fields.proofs.part.Goals as goal

pub nonzero_rem-result : goal.nonzero_rem-result
nonzero_rem-result c = power_pos _ c.requires.1

pub returns : goal.returns
returns c = part-is _ _ _ c.requires.1
