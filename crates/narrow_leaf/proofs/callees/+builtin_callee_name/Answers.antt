use Rattle.narrow_leaf.proofs.CalleeLaws.{callee_end, callee_direct, callee_unbound, callee_untraced, callee_asked}
use Rattle.narrow_texts.proofs.NumberLaws.{below, nothing_spelt}
use native.Mathlib.Omega.{arith}
use Rattle.narrow_leaf.proofs.callees.+builtin_callee_name.Goals as goal

pub returns-then-depths-eq0 : goal.returns-then-depths-eq0
returns-then-depths-eq0 t c = nothing_spelt (callee_end _ _ _ c.if-depths-eq0.true)

pub direct_name-requires : goal.direct_name-requires
direct_name-requires t c = c.requires.e_bound

pub returns-in-Some : goal.returns-in-Some
returns-in-Some t c = callee_direct _ _ _ _ c.if-depths-eq0.false c.direct_name.ensures c.in-Some.is

pub bound_expr-requires : goal.bound_expr-requires
bound_expr-requires t c = record { e_bound = c.requires.e_bound; bindings_value = c.requires.bindings_value }

pub returns-in_err-bound : goal.returns-in_err-bound
returns-in_err-bound t c = rw c.from_residual.ensures (callee_unbound _ _ _ _ c.if-depths-eq0.false c.direct_name.ensures c.in_default.is
    c.bound_expr.ensures c.in_err-bound.was)

pub builtin_callee_name-requires : goal.builtin_callee_name-requires
builtin_callee_name-requires t c = (omega arith, ((below c.bound_expr.ensures.inside c.in_ok-bound.was, c.requires.e_bound.1), c.requires.bindings_value))

pub returns-in_err-traced : goal.returns-in_err-traced
returns-in_err-traced t c = rw c.from_residual-in_err-traced.ensures (callee_untraced _ _ _ _ c.if-depths-eq0.false c.direct_name.ensures c.in_default.is
    c.bound_expr.ensures c.in_ok-bound.was c.builtin_callee_name.ensures c.in_err-traced.was)

pub spelt_like-requires : goal.spelt_like-requires
spelt_like-requires t c = (c.requires.e_bound.0, below c.builtin_callee_name.ensures.inside c.in_ok-traced.was)

pub returns : goal.returns
returns t c = rw c.then_some.ensures (callee_asked _ _ _ _ c.if-depths-eq0.false c.direct_name.ensures c.in_default.is
    c.bound_expr.ensures c.in_ok-bound.was c.builtin_callee_name.ensures c.in_ok-traced.was c.spelt_like.ensures)
