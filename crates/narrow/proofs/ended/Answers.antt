use Rattle.narrow.proofs.OutcomeLaws.{ended-over, ended_then, ended_else, ended-done}
use Rattle.narrow.proofs.ended.Goals as goal

pub returns-then-left-eq0 : goal.returns-then-left-eq0
returns-then-left-eq0 c = ended-over _ _ _ _ _ _ c.if-left-eq0.true c.refuse.ensures

pub returns-then-then_list-thens : goal.returns-then-then_list-thens
returns-then-then_list-thens c = ended_then _ _ _ _ _ _ c.if-left-eq0.false c.if-then_list-thens.true c.refuse-then-then_list-thens.ensures

pub returns-then-else_list-elses : goal.returns-then-else_list-elses
returns-then-else_list-elses c = ended_else _ _ _ _ _ _ c.if-left-eq0.false c.if-then_list-thens.false c.if-else_list-elses.true c.refuse-then-else_list-elses.ensures

pub returns : goal.returns
returns c = ended-done _ _ _ _ _ _ c.if-left-eq0.false c.if-then_list-thens.false c.if-else_list-elses.false
