use Rattle.lent.proofs.FillLaws.{Filling}
use Rattle.resolve_settle.specs.Inside.Entries.{unmarked_at}
use Rattle.resolve_settle.proofs.unmark_all.Given as goal

abbrev pub invariant-loop-e : goal.invariant-loop-e
invariant-loop-e l = Filling (unmarked_at l.initial.table) l.exprs l.initial.table l.table l.e
