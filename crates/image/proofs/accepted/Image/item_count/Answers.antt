use mathlib.Core.Path.{sym, ◌∙◌}
use Rattle.image_fields.proofs.ImageLaws.{tree-items}
use Rattle.image.proofs.accepted.Image.item_count.Goals as goal

pub returns : goal.returns
returns c = c.in_eight.ensures ∙ sym (tree-items _ _ c.requires)
