use Rattle.walk_places.proofs.PlaceLaws.{made}
use Rattle.walk_places.proofs.make.Goals as goal

pub returns-then-not-has_gap : goal.returns-then-not-has_gap
returns-then-not-has_gap c = made c.requires c.items_place.ensures c.shift_for.ensures.0 (rw c.item_total.ensures at c.shift_for.ensures.1)

pub mark-requires : goal.mark-requires
mark-requires c = made c.requires c.items_place.ensures c.shift_for.ensures.0 (rw c.item_total.ensures at c.shift_for.ensures.1)
