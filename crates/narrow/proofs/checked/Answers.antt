use Rattle.narrow.specs.Outcome.{lent}
use Rattle.narrow.proofs.OutcomeLaws.{no-expression, no-resolutions, no-bindings, fitting}
use borrow.Author.Tests.{not-true, not-false}
use mathlib.Core.Path.{sym, ◌∙◌}
use native.Mathlib.Omega.{arith}
use mathlib.Core.Path.{ap}
use mathlib.Core.Bool.{not}
use Rattle.narrow.proofs.checked.Goals as goal

pub returns-then-c-expr_count : goal.returns-then-c-expr_count
returns-then-c-expr_count c = no-expression _ _ _ _ _ (lent _ _) c.expr_count.ensures c.if-c-expr_count.true

pub returns-then-not-resolutions_fit : goal.returns-then-not-resolutions_fit
returns-then-not-resolutions_fit c = no-resolutions _ _ _ _ _ (lent _ _) c.expr_count.ensures c.if-c-expr_count.false c.resolutions_fit.ensures (not-true _ (ap not c.if-not-resolutions_fit.true))

pub returns-then-not-bindings_fit : goal.returns-then-not-bindings_fit
returns-then-not-bindings_fit c = no-bindings _ _ _ _ _ (lent _ _) c.expr_count.ensures c.if-c-expr_count.false c.resolutions_fit.ensures (not-false _ (ap not c.if-not-resolutions_fit.false)) c.bindings_fit.ensures (not-true _ (ap not c.if-not-bindings_fit.true))

pub analyze-requires : goal.analyze-requires
analyze-requires c = record { condition_bound = (omega (arith, c.expr_count.ensures, c.if-c-expr_count.false), sym c.resolutions_fit.ensures ∙ not-false _ (ap not c.if-not-resolutions_fit.false)); bindings_value = sym c.bindings_fit.ensures ∙ not-false _ (ap not c.if-not-bindings_fit.false) }

pub returns : goal.returns
returns c = fitting _ _ _ _ _ (lent _ _) c.expr_count.ensures c.if-c-expr_count.false c.resolutions_fit.ensures (not-false _ (ap not c.if-not-resolutions_fit.false)) c.bindings_fit.ensures (not-false _ (ap not c.if-not-bindings_fit.false)) c.analyze.ensures
