use Rattle.resolve_need.proofs.OutcomeLaws.{need_over, need_done}
use Rattle.resolve_need.proofs.need.Goals as goal

pub returns-then-steps-budget : goal.returns-then-steps-budget
returns-then-steps-budget c = need_over _ _ c.count_apart-steps.ensures c.if-steps-budget.true

pub returns : goal.returns
returns c = need_done _ _ c.count_apart-steps.ensures c.if-steps-budget.false
