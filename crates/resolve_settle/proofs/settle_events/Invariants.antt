use Rattle.resolve_settle.specs.Inside.Settling.{Played}
use Rattle.resolve_settle.proofs.settle_events.Given as goal

abbrev pub invariant-loop-p : goal.invariant-loop-p
invariant-loop-p l = Played l.image.bytes.now l.p l.class l.buckets l.next l.heads l.working l.initial.table l.table
