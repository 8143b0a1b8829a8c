use Rattle.resolve_settle.proofs.ChainLaws.{Unchaining}
use Rattle.resolve_settle.proofs.settle_chain.Given as goal

abbrev pub invariant-loop-h : goal.invariant-loop-h
invariant-loop-h l = Unchaining l.working l.head l.start l.entry l.initial.table l.table l.h

abbrev pub decreases-loop-h : goal.decreases-loop-h
decreases-loop-h l = l.h
