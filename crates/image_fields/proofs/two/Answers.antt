use mathlib.Core.Path.{◌∙◌}
use Rattle.image_fields.proofs.FieldLaws.{two_read}
use Rattle.image_fields.proofs.two.Goals as goal

pub returns : goal.returns
returns c = two_read _ _ (c.from.ensures ∙ c.from_be_bytes.ensures)
