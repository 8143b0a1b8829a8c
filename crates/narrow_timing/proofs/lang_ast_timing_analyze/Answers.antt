use mathlib.Core.Path.{ap, sym, ◌∙◌}
use Rattle.narrow.specs.Outcome.{question, lent}
use Rattle.narrow_timing.proofs.StandingLaws.{when_done, when_turned_back, standing}
use Rattle.narrow_timing.proofs.lang_ast_timing_analyze.Goals as goal

pub invariant_of-repeat : goal.invariant_of-repeat
invariant_of-repeat c = record {
  accepted = (standing (question _ _ _ _ _) (lent _ _) (when_done (question _ _ _ _ _) (lent _ _) (sym c.in-Ok.is) c.analyze_condition.ensures) c.analyze_condition.ensures c.analyze_condition.auto.then_list c.analyze_condition.auto.else_list).accepted;
}

pub repeat-requires : goal.repeat-requires
repeat-requires c = standing (question _ _ _ _ _) (lent _ _) (when_done (question _ _ _ _ _) (lent _ _) (sym c.in-Ok.is) c.analyze_condition.ensures) c.analyze_condition.ensures c.analyze_condition.auto.then_list c.analyze_condition.auto.else_list

pub returns-in-Ok : goal.returns-in-Ok
returns-in-Ok c = (sym (when_done (question _ _ _ _ _) (lent _ _) (sym c.in-Ok.is) c.analyze_condition.ensures), rw (c.repeat.ensures.0, c.repeat.ensures.1) (ap (λ o. o.lent) c.analyze_condition.ensures))

pub returns-in-Err : goal.returns-in-Err
returns-in-Err c = (c.from.ensures ∙ sym (when_turned_back (question _ _ _ _ _) (lent _ _) (sym c.in-Err.is) c.analyze_condition.ensures), ap (λ o. o.lent) c.analyze_condition.ensures)
