use mathlib.Core.Path.{ap}
use Prim.Native.Nat.{◌+◌, ◌≤◌, ◌<◌}
use native.Mathlib.Omega.{arith}
use Rattle.image_fields.specs.Image.{item_total}
use Rattle.image_fields.proofs.ImageLaws.{tree-items}
use Rattle.walk_places.specs.Inside.Places.{place_in}
use Rattle.walk_places.proofs.PlaceLaws.{block_there, skipped_one, skipped_more}
use Rattle.walk_places.proofs.behind.Goals as goal
use Rattle.walk_places.proofs.behind.Goals.{After-block, After-first_item}

-- the item behind, and its block
inside : (c : After-first_item) → c.first_item.result + c.args.k + 1 ≤ item_total c.args.image.bytes.now
inside c = omega (
  arith,
  c.first_item.ensures,
  c.args.image.accepted.runs _ c.requires.e_bound.0,
  c.requires.e_bound.1,
  tree-items c.args.image.bytes.now c.args.e c.requires.e_bound.0,
)

-- the item behind, and its block
inside_after_block : (c : After-block) → c.first_item.result + c.args.k + 1 ≤ item_total c.args.image.bytes.now
inside_after_block c = omega (
  arith,
  c.first_item.ensures,
  c.args.image.accepted.runs _ c.requires.e_bound.0,
  c.requires.e_bound.1,
  tree-items c.args.image.bytes.now c.args.e c.requires.e_bound.0,
)

there : (c : After-block) → c.block.result < 510
there c = omega (
  arith,
  c.block.ensures,
  block_there c.requires.placed {i = c.first_item.result + c.args.k + 1} (inside_after_block c),
)

pub overflow_add-i : goal.overflow_add-i
overflow_add-i c = omega (arith, inside ((goal.at.overflow_add-i c).After-first_item), c.args.image.accepted.sized.items-few)

pub overflow_add-i-2 : goal.overflow_add-i-2
overflow_add-i-2 c = omega (arith, inside ((goal.at.overflow_add-i-2 c).After-first_item), c.args.image.accepted.sized.items-few)

pub block-requires : goal.block-requires
block-requires c = c.requires.placed.few

pub overflow_add-next : goal.overflow_add-next
overflow_add-next c = omega (arith, there ((goal.at.overflow_add-next c).After-block))

pub offset_bounds-places-block : goal.offset_bounds-places-block
offset_bounds-places-block c = omega (arith, there ((goal.at.offset_bounds-places-block c).After-block))

pub bounds-places-block : goal.bounds-places-block
bounds-places-block c = omega (arith, there ((goal.at.bounds-places-block c).After-block))

pub overflow_add-result : goal.overflow_add-result
overflow_add-result c = omega (arith, inside ((goal.at.overflow_add-result c).After-first_item), c.args.image.accepted.sized.items-few)

pub returns-then-next-i : goal.returns-then-next-i
returns-then-next-i c = skipped_one _ c.args.image.accepted _ _ c.requires.e_bound.0 c.requires.e_bound.1

pub overflow_add-k : goal.overflow_add-k
overflow_add-k c = omega (arith, inside ((goal.at.overflow_add-k c).After-first_item), c.args.image.accepted.sized.items-few)

pub returns : goal.returns
returns c = skipped_more _ c.args.image.accepted _ _ c.requires.e_bound.0 c.requires.e_bound.1 c.requires.placed
    (omega (arith, c.first_item.ensures))
    (ap (place_in c.args.places.now) c.block.ensures) (omega (arith, c.if-next-i.false)) c.item_count.ensures
    c.min.ensures
