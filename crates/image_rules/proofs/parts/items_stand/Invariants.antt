use lib.ListN.{length}
use Rattle.image_fields.specs.Image.{decode}
use Rattle.image_rules.specs.Rules.{item_stands}
use Rattle.image_rules.proofs.ItemLaws.{Ordered}
use Rattle.image_rules.proofs.parts.items_stand.Given as goal

abbrev pub invariant-loop-k : goal.invariant-loop-k
invariant-loop-k l = Ordered (item_stands (length (decode l.items.image.now).names)) (decode l.items.image.now) l.items.owner l.items.count l.state l.k
