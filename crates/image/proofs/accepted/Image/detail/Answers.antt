use Rattle.image_fields.proofs.ImageLaws.{tree-expr}
use Rattle.image.proofs.accepted.Image.detail.Goals as goal

pub returns : goal.returns
returns c = rw (tree-expr _ _ c.requires) c.in_eight.ensures
