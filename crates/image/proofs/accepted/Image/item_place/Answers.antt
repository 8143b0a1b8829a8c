use native.Mathlib.Omega.{arith}
use Rattle.image.proofs.accepted.Image.item_place.Goals as goal

pub overflow_add-result : goal.overflow_add-result
overflow_add-result c = let r = c.args.self.accepted.runs _ c.requires.0 in omega arith

pub overflow_mul-result : goal.overflow_mul-result
overflow_mul-result c = let r = c.args.self.accepted.runs _ c.requires.0 in omega arith

pub overflow_add-result-2 : goal.overflow_add-result-2
overflow_add-result-2 c = let r = c.args.self.accepted.runs _ c.requires.0 in omega arith
