use mathlib.Core.Path.{refl}
use Rattle.narrow.proofs.OutcomeLaws.{unaffordable, ended_so}
use borrow.Author.Rules.{rules}
use borrow.Author.Tests.{not-true}
use mathlib.Core.Path.{ap}
use mathlib.Core.Bool.{not}
use Rattle.narrow.proofs.analyze.Goals as goal

pub returns-then-not-affordable : goal.returns-then-not-affordable
returns-then-not-affordable c = unaffordable _ _ _ _ _ _ _ c.affordable.ensures (not-true _ (ap not c.if-not-affordable.true))
    (c.ended.ensures.over refl)

pub analyze_node-requires : goal.analyze_node-requires
analyze_node-requires c = search rules

pub returns : goal.returns
returns c = ended_so _ _ _ _ _ _ _ c.analyze_node.ensures c.analyze_node.auto.then_list
    c.analyze_node.auto.else_list refl c.ended-2.ensures
