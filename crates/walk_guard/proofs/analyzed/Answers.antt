use Rattle.walk_guard.proofs.GuardLaws.{nothing_analyzed, whole_enough, node_ready, counted, added, item_outcome, beside_true, item_for_true, item_for_other}
use Rattle.walk_guard.proofs.analyzed.Goals as goal

pub returns-in_default : goal.returns-in_default
returns-in_default c = nothing_analyzed c.requires.ready _ c.condition_at.ensures c.in_default.is _

pub overflow_sub-run : goal.overflow_sub-run
overflow_sub-run c = whole_enough c.requires.ready _ c.condition_at.ensures c.in-Some.is c.requires.spends

pub analyze_node-requires : goal.analyze_node-requires
analyze_node-requires c = node_ready c.requires.ready _ c.condition_at.ensures c.in-Some.is c.requires.spends

pub returns-in-ForTrue : goal.returns-in-ForTrue
returns-in-ForTrue c = counted c.requires.ready _ c.condition_at.ensures c.in-Some.is c.requires.spends (item_outcome c.args.from)
    (beside_true _ c.counted_beside.ensures) c.analyze_node.ensures (item_for_true c.in-ForTrue.is)

pub returns-in-ForFalse : goal.returns-in-ForFalse
returns-in-ForFalse c = added c.requires.ready _ c.condition_at.ensures c.in-Some.is c.requires.spends (item_outcome c.args.from)
    (beside_true _ c.counted_beside.ensures) c.analyze_node.ensures (item_for_other c.in-ForFalse.is)
