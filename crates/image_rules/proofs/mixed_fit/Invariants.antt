use Rattle.image_fields.specs.Image.{decode}
use Rattle.image_rules.specs.Inside.Machine.{Row}
use Rattle.image_rules.proofs.ItemLaws.{Following}
use Rattle.image_rules.proofs.mixed_fit.Given as goal

abbrev pub invariant-loop-k : goal.invariant-loop-k
invariant-loop-k l = Following (decode l.items.image.now) l.items.owner l.items.count l.state l.k × Row l.state l.row
