use Rattle.image_fields.specs.Image.{decode}
use Rattle.levels.specs.Inside.Known.{Known}
use Rattle.levels.proofs.levels_in.Given as goal

abbrev pub invariant-loop-e : goal.invariant-loop-e
invariant-loop-e l = Known (decode l.image.bytes.now) l.e l.levels
