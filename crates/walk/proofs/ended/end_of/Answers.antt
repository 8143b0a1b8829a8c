use mathlib.Core.Path.{ap}
use Rattle.codes.specs.Refusals.{refusal_numbered}
use Rattle.image.specs.Refusals.{verdict_of}
use Rattle.walk.proofs.EndLaws.{end_over, end_edges, end_narrowings, end_exprs, end_working, end_done}
use Rattle.walk.proofs.ended.end_of.Goals as goal

pub returns-then-state-eq0 : goal.returns-then-state-eq0
unfolding verdict_of refusal_numbered
returns-then-state-eq0 c = ap verdict_of (end_over _ _ _ _ _ _ c.if-state-eq0.true)

pub returns-then-edges-state : goal.returns-then-edges-state
unfolding verdict_of refusal_numbered
returns-then-edges-state c = ap verdict_of (end_edges _ _ _ _ _ _ c.if-state-eq0.false c.if-edges-state.true)

pub returns-then-narrowings-state : goal.returns-then-narrowings-state
unfolding verdict_of refusal_numbered
returns-then-narrowings-state c = ap verdict_of (end_narrowings _ _ _ _ _ _ c.if-state-eq0.false c.if-edges-state.false c.if-narrowings-state.true)

pub returns-then-exprs-names : goal.returns-then-exprs-names
unfolding verdict_of refusal_numbered
returns-then-exprs-names c = ap verdict_of (end_exprs _ _ _ _ _ _ c.if-state-eq0.false c.if-edges-state.false c.if-narrowings-state.false c.if-exprs-names.true)

pub returns-then-working-state : goal.returns-then-working-state
unfolding verdict_of refusal_numbered
returns-then-working-state c = ap verdict_of (end_working _ _ _ _ _ _ c.if-state-eq0.false c.if-edges-state.false c.if-narrowings-state.false c.if-exprs-names.false c.if-working-state.true)

pub returns : goal.returns
unfolding verdict_of refusal_numbered
returns c = ap verdict_of (end_done _ _ _ _ _ _ c.if-state-eq0.false c.if-edges-state.false c.if-narrowings-state.false c.if-exprs-names.false c.if-working-state.false)
