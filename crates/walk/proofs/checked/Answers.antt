use Rattle.codes.specs.Refusals.{refusal_numbered}
use Rattle.walk.specs.Outcome.{question, lent, run_rules, walking}
use mathlib.Core.Path.{sym, ◌∙◌}
use borrow.Author.Tests.{not-true, not-false}
use Rattle.walk.proofs.FitLaws.{no-resolutions, no-bindings, fitting}
use mathlib.Core.Path.{ap}
use mathlib.Core.Bool.{not}
use Rattle.walk.proofs.checked.Goals as goal

pub returns-then-not-resolutions_fit : goal.returns-then-not-resolutions_fit
unfolding refusal_numbered
returns-then-not-resolutions_fit c = no-resolutions walking (run_rules (question _ _ _ _) (lent _ _ _ _)) (question _ _ _ _) (lent _ _ _ _) c.resolutions_fit.ensures (not-true _ (ap not c.if-not-resolutions_fit.true))

pub returns-then-not-bindings_fit : goal.returns-then-not-bindings_fit
unfolding refusal_numbered
returns-then-not-bindings_fit c = no-bindings walking (run_rules (question _ _ _ _) (lent _ _ _ _)) (question _ _ _ _) (lent _ _ _ _) c.resolutions_fit.ensures (not-false _ (ap not c.if-not-resolutions_fit.false))
    c.bindings_fit.ensures (not-true _ (ap not c.if-not-bindings_fit.true))

pub walk-requires : goal.walk-requires
walk-requires c = (
  sym c.resolutions_fit.ensures ∙ not-false _ (ap not c.if-not-resolutions_fit.false),
  sym c.bindings_fit.ensures ∙ not-false _ (ap not c.if-not-bindings_fit.false),
)

pub returns : goal.returns
returns c = fitting walking (run_rules (question _ _ _ _) (lent _ _ _ _)) (question _ _ _ _) (lent _ _ _ _) c.resolutions_fit.ensures (not-false _ (ap not c.if-not-resolutions_fit.false))
    c.bindings_fit.ensures (not-false _ (ap not c.if-not-bindings_fit.false)) c.walk.ensures
