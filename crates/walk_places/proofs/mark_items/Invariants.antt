use Rattle.walk_places.proofs.PlaceLaws.{Marking}
use Rattle.walk_places.proofs.mark_items.Given as goal

abbrev pub invariant-loop-i : goal.invariant-loop-i
invariant-loop-i l = Marking l.image.bytes.now l.e l.places l.next l.i
