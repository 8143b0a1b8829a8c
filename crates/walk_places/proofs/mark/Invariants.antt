use Prim.Native.Nat.{◌<◌, ◌^◌}
use Rattle.image_fields.specs.Image.{count_of}
use Rattle.image_tables.specs.Tables.{total}
use Rattle.walk_places.specs.Inside.Places.{Idle, Placed}
use Rattle.walk_places.proofs.mark.Given as goal

abbrev pub invariant-loop-e : goal.invariant-loop-e
invariant-loop-e l = (l.next < 2 ^ 20)
    × Idle l.image.bytes.now (total (count_of l.image.bytes.now) l.e) l.next
    × Placed l.image.bytes.now l.places
