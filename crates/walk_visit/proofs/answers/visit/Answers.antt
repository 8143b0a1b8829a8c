use native.Mathlib.Omega.{arith}
use Rattle.walk_visit.proofs.AnswerLaws.{step_over, step_on}
use Rattle.walk_visit.proofs.answers.visit.Goals as goal

pub returns-then-state-eq0 : goal.returns-then-state-eq0
returns-then-state-eq0 c = step_over _ _ _ _ _ _ _ c.if-state-eq0.true

pub edge-requires : goal.edge-requires
edge-requires c = record { e_bound = c.requires.e_bound; binding_bound = (c.requires.binding_bound.0, omega (arith, c.requires.binding_bound)) }

pub returns : goal.returns
returns c = step_on _ _ _ _ _ _ _ c.if-state-eq0.false c.max-state.ensures c.edge.ensures
