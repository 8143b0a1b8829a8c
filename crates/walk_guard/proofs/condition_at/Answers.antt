use native.Mathlib.Omega.{arith}
use mathlib.Core.Logic.{inl, inr}
use Rattle.walk_visit.proofs.ItemLaws.{has_part, part_in}
use Rattle.walk_guard.proofs.GuardLaws.{condition-call, condition-part, condition-none}
use Rattle.walk_guard.proofs.condition_at.Goals as goal

pub item_expression-requires : goal.item_expression-requires
item_expression-requires c = (c.requires.0, has_part _ c.args.image.accepted _ c.requires.0 c.kind.ensures (inl c.in-1.is) 0 (omega arith))

pub call_condition-requires : goal.call_condition-requires
call_condition-requires c = (
  part_in _ c.args.image.accepted _ c.requires.0 c.kind.ensures (inl c.in-1.is) (omega arith) c.item_expression.ensures,
  c.requires.1,
)

pub item_expression-requires-in-2 : goal.item_expression-requires-in-2
item_expression-requires-in-2 c = (c.requires.0, has_part _ c.args.image.accepted _ c.requires.0 c.kind.ensures (inr (inl c.in-2.is)) 0 (omega arith))

pub item_expression-requires-in-14 : goal.item_expression-requires-in-14
item_expression-requires-in-14 c = (c.requires.0, has_part _ c.args.image.accepted _ c.requires.0 c.kind.ensures (inr (inr c.in-14.is)) 0 (omega arith))

pub returns-in-1 : goal.returns-in-1
returns-in-1 c = condition-call _ _ c.args.image.accepted _ c.requires.0 c.kind.ensures c.in-1.is c.item_expression.ensures
    c.call_condition.ensures

pub returns-in-2 : goal.returns-in-2
returns-in-2 c = condition-part _ _ c.args.image.accepted _ c.requires.0 c.kind.ensures (inl c.in-2.is)
    c.item_expression-in-2.ensures

pub returns-in-14 : goal.returns-in-14
returns-in-14 c = condition-part _ _ c.args.image.accepted _ c.requires.0 c.kind.ensures (inr c.in-14.is)
    c.item_expression-in-14.ensures

pub returns-in_default : goal.returns-in_default
returns-in_default c = condition-none _ _ c.args.image.accepted _ c.requires.0 c.kind.ensures c.in_default.in_default-own.rest.0.0.1 c.in_default.in_default-own.rest.0.1
    c.in_default.in_default-own.rest.1
