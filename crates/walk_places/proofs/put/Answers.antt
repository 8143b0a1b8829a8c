use native.Mathlib.Omega.{arith}
use Rattle.walk_places.proofs.PlaceLaws.{put_kept, put_there}
use Rattle.walk_places.proofs.put.Goals as goal

pub returns-then-b-places : goal.returns-then-b-places
returns-then-b-places c = put_kept _

pub returns : goal.returns
returns c = put_there _ c.block-b.ensures c.if-b-places.false c.requires.places_bound.2
    (omega (arith, c.requires.places_bound.1, c.requires.places_len, c.block-b.ensures))
