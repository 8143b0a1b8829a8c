use Rattle.std.proofs.Common.{◌≡◌, true}
use Rattle.texts.specs.Inside.Ends.{Alike}
use Rattle.texts.proofs.alike_run.Given as goal

abbrev pub invariant-loop-k : goal.invariant-loop-k
invariant-loop-k g l = l.alike ≡ true → Alike l.a l.b l.at l.k
