use native.Mathlib.Omega.{arith}
use Rattle.walk_visit.proofs.AnswerLaws.{number-below, no_edge, no_name_lem, one-edge}
use Rattle.walk_visit.proofs.answers.edge.Goals as goal

pub returns-then-binding-eq-NONE : goal.returns-then-binding-eq-NONE
returns-then-binding-eq-NONE c = no_edge _ _ _ _ _ _ c.if-binding-eq-NONE.true

pub returns-then-name-eq-NONE : goal.returns-then-name-eq-NONE
returns-then-name-eq-NONE c = no_name_lem _ _ _ _ _ _ c.if-binding-eq-NONE.false _ c.expr_as_local_name.ensures (omega (arith, c.args.image.accepted.sized.names-few)) c.number-name.ensures c.if-name-eq-NONE.true

pub overflow_add-binding : goal.overflow_add-binding
overflow_add-binding c = omega
    (arith, c.requires.binding_bound.0, number-below _ c.expr_as_local_name.ensures (omega (arith, c.args.image.accepted.sized.names-few)) c.number-name.ensures c.if-name-eq-NONE.false, c.args.image.accepted.sized.names-few)

pub overflow_mul-binding-2 : goal.overflow_mul-binding-2
overflow_mul-binding-2 c = omega
    (arith, c.requires.binding_bound.0, number-below _ c.expr_as_local_name.ensures (omega (arith, c.args.image.accepted.sized.names-few)) c.number-name.ensures c.if-name-eq-NONE.false, c.args.image.accepted.sized.names-few)

pub returns : goal.returns
returns c = one-edge _ _ _ _ _ _ c.if-binding-eq-NONE.false _ c.expr_as_local_name.ensures (omega (arith, c.args.image.accepted.sized.names-few)) c.number-name.ensures c.if-name-eq-NONE.false
    c.put32.ensures
