use Rattle.std.proofs.Common.{rules}
use Rattle.narrow_leaf.proofs.ToldLaws.{binary_parts, of_equal, of_unequal, of_operator}
use Rattle.image.proofs.OrderedLaws.{part-inside, part-below}
use Rattle.semantics.specs.Tree.{part}
use native.Mathlib.Omega.{arith}
use Rattle.narrow_leaf.proofs.told.comparison.Goals as goal

pub item_expression-left-requires : goal.item_expression-left-requires
item_expression-left-requires c = (c.requires.c_bound.0, part-inside _ c.args.image.accepted _ c.requires.c_bound.0 0 (binary_parts _ _ c.requires.c_value 0 (omega arith)))

pub item_expression-right-requires : goal.item_expression-right-requires
item_expression-right-requires c = (c.requires.c_bound.0, part-inside _ c.args.image.accepted _ c.requires.c_bound.0 1 (binary_parts _ _ c.requires.c_value 1 (omega arith)))

pub compared-requires : goal.compared-requires
unfolding part
compared-requires c = (omega (arith, c.requires.c_bound.0, c.item_expression-left.ensures, part-below _ c.args.image.accepted _ c.requires.c_bound.0 0 (binary_parts _ _ c.requires.c_value 0 (omega arith))), omega (arith, c.requires.c_bound.0, c.item_expression-right.ensures, part-below _ c.args.image.accepted _ c.requires.c_bound.0 1 (binary_parts _ _ c.requires.c_value 1 (omega arith))), c.requires.c_bound.1)

pub returns-in-9 : goal.returns-in-9
returns-in-9 c = of_equal _ _ _ c.requires.c_value c.detail.ensures c.item_expression-left.ensures c.item_expression-right.ensures c.in-9.is c.compared.ensures

pub compared-requires-in-8 : goal.compared-requires-in-8
unfolding part
compared-requires-in-8 c = (omega (arith, c.requires.c_bound.0, c.item_expression-left.ensures, part-below _ c.args.image.accepted _ c.requires.c_bound.0 0 (binary_parts _ _ c.requires.c_value 0 (omega arith))), omega (arith, c.requires.c_bound.0, c.item_expression-right.ensures, part-below _ c.args.image.accepted _ c.requires.c_bound.0 1 (binary_parts _ _ c.requires.c_value 1 (omega arith))), c.requires.c_bound.1)

pub returns-in-8 : goal.returns-in-8
returns-in-8 c = of_unequal _ _ _ c.requires.c_value c.detail.ensures c.item_expression-left.ensures c.item_expression-right.ensures c.in-8.is c.compared-in-8.ensures c.turned.ensures

pub returns-in_default : goal.returns-in_default
returns-in_default c = of_operator _ _ _ c.requires.c_value c.detail.ensures c.item_expression-left.ensures c.item_expression-right.ensures (λ h. search rules) (λ h. search rules) c.nothing.ensures
