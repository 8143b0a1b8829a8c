use native.Mathlib.Omega.{arith}
use Rattle.image_fields.proofs.ImageLaws.{tree-item}
use Rattle.image.proofs.accepted.Image.item_role.Goals as goal

pub role_at-requires : goal.role_at-requires
role_at-requires c = let r = c.args.self.accepted.runs _ c.requires.0 in omega arith

pub returns : goal.returns
returns c = rw (tree-item _ _ _ c.requires.0 c.requires.1) (rw c.item_place.ensures at c.role_at.ensures)
