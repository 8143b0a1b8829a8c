use native.Mathlib.Omega.{arith}
use mathlib.Core.Logic.{inl}
use Rattle.walk_visit.proofs.ItemLaws.{has_part, part_in}
use Rattle.walk_guard.proofs.GuardLaws.{no_call, not-recognised, is-recognised}
use Rattle.walk_guard.proofs.call_condition.Goals as goal

pub returns-then-kind-ne-APPLY : goal.returns-then-kind-ne-APPLY
returns-then-kind-ne-APPLY c = no_call _ _ c.args.image.accepted _ c.requires.0 c.kind.ensures c.if-kind-ne-APPLY.true

pub item_expression-requires : goal.item_expression-requires
item_expression-requires c = (c.requires.0, has_part _ c.args.image.accepted _ c.requires.0 c.kind.ensures (inl c.if-kind-ne-APPLY.false) 0 (omega arith))

pub detect_conditional_fn-requires : goal.detect_conditional_fn-requires
detect_conditional_fn-requires c = (
  part_in _ c.args.image.accepted _ c.requires.0 c.kind.ensures (inl c.if-kind-ne-APPLY.false) (omega arith) c.item_expression.ensures,
  c.requires.1,
)

pub returns-in_err-detect_conditional_fn : goal.returns-in_err-detect_conditional_fn
returns-in_err-detect_conditional_fn c = rw c.from_residual.ensures
    (not-recognised _ _ c.args.image.accepted _ c.requires.0 c.kind.ensures c.if-kind-ne-APPLY.false c.item_expression.ensures
    c.detect_conditional_fn.ensures c.in_err-detect_conditional_fn.was)

pub item_expression-requires-2 : goal.item_expression-requires-2
item_expression-requires-2 c = (c.requires.0, has_part _ c.args.image.accepted _ c.requires.0 c.kind.ensures (inl c.if-kind-ne-APPLY.false) 1 (omega arith))

pub returns : goal.returns
returns c = is-recognised _ _ c.args.image.accepted _ c.requires.0 c.kind.ensures c.if-kind-ne-APPLY.false c.item_expression.ensures
    c.detect_conditional_fn.ensures c.in_ok-detect_conditional_fn.was
    c.item_expression-2.ensures
