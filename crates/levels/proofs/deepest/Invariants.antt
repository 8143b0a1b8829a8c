use Rattle.image_fields.specs.Image.{decode}
use Rattle.levels.proofs.LoopLaws.{Deepening}
use Rattle.levels.proofs.deepest.Given as goal

abbrev pub invariant-loop-k : goal.invariant-loop-k
invariant-loop-k l = Deepening (decode l.image.bytes.now) l.e l.count l.best l.k
