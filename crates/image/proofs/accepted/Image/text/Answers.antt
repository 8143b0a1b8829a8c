use mathlib.Core.Path.{refl}
use native.Mathlib.Omega.{arith}
use Rattle.image_fields.proofs.ImageLaws.{tree-bytes}
use Rattle.image.proofs.accepted.Image.text.Goals as goal

pub overflow_add-from : goal.overflow_add-from
overflow_add-from c = let r = c.args.self.accepted.texts _ c.requires in omega arith

pub overflow_add-to : goal.overflow_add-to
overflow_add-to c = let r = c.args.self.accepted.texts _ c.requires in omega arith

pub slice_bounds-result-end : goal.slice_bounds-result-end
slice_bounds-result-end c = let r = c.args.self.accepted.texts _ c.requires in omega arith

pub returns : goal.returns
returns c = tree-bytes _ _ c.args.self.accepted.sized.size c.requires c.byte_total.ensures c.text_first.ensures c.text_length.ensures refl refl
