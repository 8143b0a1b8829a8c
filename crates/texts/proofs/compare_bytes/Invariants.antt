use Rattle.texts.specs.Inside.Ends.{Left}
use Rattle.texts.proofs.compare_bytes.Given as goal

abbrev pub invariant-loop-i : goal.invariant-loop-i
invariant-loop-i l = Left l.a l.b l.i
