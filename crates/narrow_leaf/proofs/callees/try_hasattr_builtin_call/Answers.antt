use Rattle.narrow_leaf.proofs.CalleeLaws.{call-parts, no_call, no-callee, other-callee, key-call}
use Rattle.narrow_texts.proofs.NumberLaws.{below, nothing-found, found_as}
use Rattle.image.proofs.OrderedLaws.{part-inside, part-below}
use Rattle.semantics.specs.Tree.{part}
use native.Mathlib.Omega.{arith}
use borrow.Author.Tests.{not-true, not-false}
use mathlib.Core.Path.{ap}
use mathlib.Core.Bool.{not}
use Rattle.narrow_leaf.proofs.callees.try_hasattr_builtin_call.Goals as goal

pub returns-then-kind-ne-APPLY : goal.returns-then-kind-ne-APPLY
returns-then-kind-ne-APPLY c = nothing-found (no_call _ _ _ _ c.kind.ensures c.if-kind-ne-APPLY.true)

pub item_expression-callee-requires : goal.item_expression-callee-requires
item_expression-callee-requires c = (
  c.requires.f_bound.0,
  part-inside _ c.args.image.accepted _ c.requires.f_bound.0 0 (call-parts _ _ c.kind.ensures c.if-kind-ne-APPLY.false 0 (omega arith)),
)

pub builtin_callee_name-requires : goal.builtin_callee_name-requires
unfolding part
builtin_callee_name-requires c = record {
  e_bound = (
    omega (
      arith,
      c.requires.f_bound.0,
      c.item_expression-callee.ensures,
      part-below _ c.args.image.accepted _ c.requires.f_bound.0 0 (call-parts _ _ c.kind.ensures c.if-kind-ne-APPLY.false 0 (omega arith)),
    ),
    c.requires.f_bound.1,
  );
  bindings_value = c.requires.bindings_value;
}

pub returns-in_err-name : goal.returns-in_err-name
returns-in_err-name c = rw c.from_residual.ensures (nothing-found
    (no-callee _ _ _ _ c.kind.ensures c.if-kind-ne-APPLY.false c.item_expression-callee.ensures c.builtin_callee_name.ensures
    c.in_err-name.was))

pub text-requires : goal.text-requires
text-requires c = below c.builtin_callee_name.ensures.inside c.in_ok-name.was

pub returns-then-not-same : goal.returns-then-not-same
returns-then-not-same c = nothing-found
    (other-callee _ _ _ _ c.kind.ensures c.if-kind-ne-APPLY.false c.item_expression-callee.ensures c.builtin_callee_name.ensures
    c.in_ok-name.was c.text.ensures c.same.ensures (not-true _ (ap not c.if-not-same.true)))

pub item_expression-requires : goal.item_expression-requires
item_expression-requires c = (
  c.requires.f_bound.0,
  part-inside _ c.args.image.accepted _ c.requires.f_bound.0 1 (call-parts _ _ c.kind.ensures c.if-kind-ne-APPLY.false 1 (omega arith)),
)

pub string-requires : goal.string-requires
unfolding part
string-requires c = omega (
  arith,
  c.requires.f_bound.0,
  c.item_expression.ensures,
  part-below _ c.args.image.accepted _ c.requires.f_bound.0 1 (call-parts _ _ c.kind.ensures c.if-kind-ne-APPLY.false 1 (omega arith)),
)

pub returns : goal.returns
returns c = found_as
    (key-call _ _ _ _ c.kind.ensures c.if-kind-ne-APPLY.false c.item_expression-callee.ensures c.builtin_callee_name.ensures
    c.in_ok-name.was c.text.ensures c.same.ensures (not-false _ (ap not c.if-not-same.false)) c.item_expression.ensures)
    c.string.ensures
