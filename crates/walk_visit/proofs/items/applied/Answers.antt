use mathlib.Core.Path.{refl}
use native.Mathlib.Omega.{arith}
use Rattle.walk_visit.proofs.ItemLaws.{first-inside, first_there}
use Rattle.walk_visit.proofs.items.applied.Goals as goal

pub overflow_mul-first_item : goal.overflow_mul-first_item
overflow_mul-first_item c = omega (arith, c.args.image.accepted.sized.size, first-inside _ c.args.image.accepted _ c.requires.e_bound.0 refl c.requires.e_bound.1 c.requires.items_at_value c.first_item.ensures refl)

pub overflow_add-items_at : goal.overflow_add-items_at
overflow_add-items_at c = omega (arith, c.args.image.accepted.sized.size, first-inside _ c.args.image.accepted _ c.requires.e_bound.0 refl c.requires.e_bound.1 c.requires.items_at_value c.first_item.ensures refl)

pub expression_at-requires : goal.expression_at-requires
expression_at-requires c = first-inside _ c.args.image.accepted _ c.requires.e_bound.0 refl c.requires.e_bound.1 c.requires.items_at_value c.first_item.ensures refl

pub returns : goal.returns
returns c = first_there _ c.args.image.accepted _ c.requires.e_bound.0 refl c.requires.e_bound.1 c.requires.items_at_value c.first_item.ensures refl c.expression_at.ensures
