use borrow.Author.Rules.{rules}
use Rattle.narrow_timing.proofs.StandingLaws.{stays}
use Rattle.narrow_timing.proofs.repeat.Goals as goal

pub analyze_node-requires : goal.analyze_node-requires
analyze_node-requires c = record { accepted = c.loop.invariant.0.accepted; resolved = c.loop.invariant.0.resolved; bound = c.loop.invariant.0.bound; inside = c.loop.invariant.0.inside; going = search rules; thens-few = search rules; elses-few = search rules }

pub loop-preserved : goal.loop-preserved
loop-preserved c = stays c.loop.invariant.0 c.analyze_node.ensures c.analyze_node.auto.then_list c.analyze_node.auto.else_list c.loop.invariant.1 c.loop.invariant.2
