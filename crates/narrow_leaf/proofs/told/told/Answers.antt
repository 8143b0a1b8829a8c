use Rattle.std.proofs.Common.{rules}
use Rattle.narrow_leaf.proofs.ToldLaws.{of_binary, of_asked, of_call, of_other}
use Rattle.narrow_leaf.proofs.CalleeLaws.{call-parts}
use Rattle.image.proofs.OrderedLaws.{part-inside, part-below}
use Rattle.semantics.specs.Tree.{part}
use mathlib.Core.Path.{sym, ◌∙◌}
use native.Mathlib.Omega.{arith}
use Rattle.narrow_leaf.proofs.told.told.Goals as goal

pub comparison-requires : goal.comparison-requires
comparison-requires c = record { c_bound = c.requires.c_bound; c_value = sym c.kind.ensures ∙ c.in-7.is }

pub returns-in-7 : goal.returns-in-7
returns-in-7 c = of_binary _ _ _ _ c.kind.ensures c.in-7.is c.comparison.ensures

pub asked-requires : goal.asked-requires
asked-requires c = record { c_bound = c.requires.c_bound; c_value = sym c.kind.ensures ∙ c.in-12.is }

pub returns-in-12 : goal.returns-in-12
returns-in-12 c = of_asked _ _ _ _ c.kind.ensures c.in-12.is c.asked.ensures

pub returns-in_default : goal.returns-in_default
returns-in_default c = of_other _ _ _ _ c.kind.ensures (λ h. search rules) (λ h. search rules) (λ h. search rules) c.nothing.ensures

pub item_expression-f-requires : goal.item_expression-f-requires
item_expression-f-requires c = (c.requires.c_bound.0, part-inside _ c.args.image.accepted _ c.requires.c_bound.0 0 (call-parts _ _ c.kind.ensures c.in-1.is 0 (omega arith)))

pub item_expression-a-requires : goal.item_expression-a-requires
item_expression-a-requires c = (c.requires.c_bound.0, part-inside _ c.args.image.accepted _ c.requires.c_bound.0 1 (call-parts _ _ c.kind.ensures c.in-1.is 1 (omega arith)))

pub called-requires : goal.called-requires
unfolding part
called-requires c = record { f_bound = (omega (arith, c.requires.c_bound.0, c.item_expression-f.ensures, part-below _ c.args.image.accepted _ c.requires.c_bound.0 0 (call-parts _ _ c.kind.ensures c.in-1.is 0 (omega arith))), omega (arith, c.requires.c_bound.0, c.item_expression-a.ensures, part-below _ c.args.image.accepted _ c.requires.c_bound.0 1 (call-parts _ _ c.kind.ensures c.in-1.is 1 (omega arith))), c.requires.c_bound.1); bindings_value = c.requires.bindings_value }

pub returns-in-1 : goal.returns-in-1
returns-in-1 c = of_call _ _ _ _ c.kind.ensures c.in-1.is c.item_expression-f.ensures c.item_expression-a.ensures c.called.ensures
