use Rattle.image_fields.specs.Image.{decode}
use Rattle.image.proofs.entry.Goals as goal

pub returns : goal.returns
unfolding decode
returns c = c.field.ensures
