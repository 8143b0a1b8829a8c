use Rattle.image_fields.proofs.ImageLaws.{tree-name}
use Rattle.image.proofs.accepted.Image.name_kind.Goals as goal

pub returns : goal.returns
returns c = rw (tree-name _ _ c.requires) (rw c.expr_count.ensures at c.in_four.ensures)
