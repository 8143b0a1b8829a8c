use Rattle.narrow_run.proofs.RecordLaws.{bounded}
use Rattle.narrow_run.proofs.RunLaws.{leaf-ran, leaf-ran-none}
use Rattle.narrow_run.proofs.analyze_leaf.Goals as goal

pub returns-then-take_none : goal.returns-then-take_none
returns-then-take_none c = leaf-ran-none (c.take_none.ensures.thens c.if-take_none.true) (c.take_none.ensures.elses c.if-take_none.true) _

pub tell-state-requires-clause-bounded : goal.tell-state-requires-clause-bounded
tell-state-requires-clause-bounded c = bounded _ _ _ _ c.told-told.ensures

pub tell-state-requires-2-clause-bounded : goal.tell-state-requires-2-clause-bounded
tell-state-requires-2-clause-bounded c = bounded _ _ _ _ c.told-told.ensures

pub returns : goal.returns
returns c = leaf-ran c.told-told.ensures c.args.state.now c.tell-state.ensures c.tell-state-2.ensures
