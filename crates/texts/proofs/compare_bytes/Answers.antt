use native.Mathlib.Omega.{arith}
use Rattle.texts.proofs.PairLaws.{stops, done}
use Rattle.texts.proofs.compare_bytes.Goals as goal

pub returns-then-a-i : goal.returns-then-a-i
returns-then-a-i c = stops c.requires c.loop-i.invariant (omega arith) c.if-a-i.true

pub returns : goal.returns
returns c = done c.requires c.loop-i.invariant c.loop-i-test.false
