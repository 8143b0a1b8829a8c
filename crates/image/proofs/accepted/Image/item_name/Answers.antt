use native.Mathlib.Omega.{arith}
use Rattle.image_fields.proofs.ImageLaws.{tree-item}
use Rattle.image.proofs.accepted.Image.item_name.Goals as goal

pub name_at-requires : goal.name_at-requires
name_at-requires c = let r = c.args.self.accepted.runs _ c.requires.0 in omega arith

pub returns : goal.returns
returns c = rw (tree-item _ _ _ c.requires.0 c.requires.1) (rw c.item_place.ensures at c.name_at.ensures)
