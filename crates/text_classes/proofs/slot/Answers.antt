use mathlib.Core.Path.{refl}
use native.Mathlib.Omega.{arith}
use Rattle.text_classes.proofs.HashLaws.{slot_fits, slot_at}
use Rattle.text_classes.proofs.slot.Goals as goal

pub overflow_mul-result : goal.overflow_mul-result
overflow_mul-result c = omega (arith, slot_fits c.hash.result c.requires.slots_bound)

pub returns : goal.returns
returns c = slot_at c.requires.slots_nonzero c.hash.ensures refl
