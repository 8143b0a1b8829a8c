use Prim.Native.Nat.{◌-◌}
use Rattle.text_classes.specs.Inside.Chains.{limit}
use Rattle.text_classes.proofs.ChainLaws.{Seeking}
use Rattle.text_classes.proofs.seek.Given as goal

abbrev pub invariant-loop-looked : goal.invariant-loop-looked
invariant-loop-looked l = Seeking l.image.bytes.now l.next l.head l.x l.at (limit - l._looked)
