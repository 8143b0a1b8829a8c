use Rattle.image_fields.specs.Image.{decode}
use Rattle.narrow_counts.specs.Inside.Nodes.{Filled}
use Rattle.narrow_counts.proofs.fill_nodes.Given as goal

abbrev pub invariant-loop-e : goal.invariant-loop-e
invariant-loop-e l = Filled (decode l.image.bytes.now) l.e l.room
