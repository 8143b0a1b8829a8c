use mathlib.Core.Path.{refl}
use Prim.Native.Nat.{◌<◌}
use native.Mathlib.Omega.{arith}
use Rattle.narrow_run.proofs.RunLaws.{inverted_there}
use Rattle.narrow_counts.proofs.NodeLaws.{counted-leaf, counted-not, counted-both, part-inside-of, part_below, joined}
use Rattle.narrow_counts.proofs.nodes_of.Goals as goal
use Rattle.narrow_counts.proofs.nodes_of.Goals.{After-item_expression, After-item_expression-in-And, After-item_expression-in-And-2}

-- the parts
under : (c : After-item_expression) → c.item_expression.result < c.args.c
under c = part_below _ c.args.image.accepted _ c.requires.c_bound.0 (inverted_there _ _ c.in-Not.ensures) c.item_expression.ensures

first : (c : After-item_expression-in-And) → c.item_expression-in-And.result < c.args.c
first c = part_below _ c.args.image.accepted _ c.requires.c_bound.0
    (joined _ c.args.image.accepted _ c.requires.c_bound.0 _ c.connective_of.ensures c.in-And.is (omega arith)) c.item_expression-in-And.ensures

second : (c : After-item_expression-in-And-2) → c.item_expression-in-And-2.result < c.args.c
second c = part_below _ c.args.image.accepted _ c.requires.c_bound.0
    (joined _ c.args.image.accepted _ c.requires.c_bound.0 _ c.connective_of.ensures c.in-And.is (omega arith)) c.item_expression-in-And-2.ensures

pub returns-in-Leaf : goal.returns-in-Leaf
returns-in-Leaf c = counted-leaf _ c.args.image.accepted _ c.requires.c_bound.0 c.in-Leaf.ensures

pub item_expression-requires : goal.item_expression-requires
item_expression-requires c = (c.requires.c_bound.0, part-inside-of _ c.args.image.accepted _ c.requires.c_bound.0 (inverted_there _ _ c.in-Not.ensures))

pub offset_bounds-room-item_expression : goal.offset_bounds-room-item_expression
offset_bounds-room-item_expression c = omega (arith, under ((goal.at.offset_bounds-room-item_expression c).After-item_expression), c.requires.c_bound.0, c.args.image.accepted.sized.exprs-few)

pub bounds-room-item_expression : goal.bounds-room-item_expression
bounds-room-item_expression c = omega (arith, under ((goal.at.bounds-room-item_expression c).After-item_expression), c.requires.c_bound.1)

pub returns-in-Not : goal.returns-in-Not
returns-in-Not c = counted-not _ c.args.image.accepted _ c.requires.c_bound.0 c.requires.filled c.item_expression.ensures refl c.in-Not.ensures

pub item_expression-requires-in-And : goal.item_expression-requires-in-And
item_expression-requires-in-And c = (
  c.requires.c_bound.0,
  part-inside-of _ c.args.image.accepted _ c.requires.c_bound.0
      (joined _ c.args.image.accepted _ c.requires.c_bound.0 _ c.connective_of.ensures c.in-And.is (omega arith)),
)

pub offset_bounds-room-item_expression-in-And : goal.offset_bounds-room-item_expression-in-And
offset_bounds-room-item_expression-in-And c = omega (arith, first ((goal.at.offset_bounds-room-item_expression-in-And c).After-item_expression-in-And), c.requires.c_bound.0, c.args.image.accepted.sized.exprs-few)

pub bounds-room-item_expression-in-And : goal.bounds-room-item_expression-in-And
bounds-room-item_expression-in-And c = omega (arith, first ((goal.at.bounds-room-item_expression-in-And c).After-item_expression-in-And), c.requires.c_bound.1)

pub item_expression-requires-in-And-2 : goal.item_expression-requires-in-And-2
item_expression-requires-in-And-2 c = (
  c.requires.c_bound.0,
  part-inside-of _ c.args.image.accepted _ c.requires.c_bound.0
      (joined _ c.args.image.accepted _ c.requires.c_bound.0 _ c.connective_of.ensures c.in-And.is (omega arith)),
)

pub offset_bounds-room-item_expression-in-And-2 : goal.offset_bounds-room-item_expression-in-And-2
offset_bounds-room-item_expression-in-And-2 c = omega (arith, second ((goal.at.offset_bounds-room-item_expression-in-And-2 c).After-item_expression-in-And-2), c.requires.c_bound.0, c.args.image.accepted.sized.exprs-few)

pub bounds-room-item_expression-in-And-2 : goal.bounds-room-item_expression-in-And-2
bounds-room-item_expression-in-And-2 c = omega (arith, second ((goal.at.bounds-room-item_expression-in-And-2 c).After-item_expression-in-And-2), c.requires.c_bound.1)

pub returns-in-And : goal.returns-in-And
returns-in-And c = counted-both _ c.args.image.accepted _ c.requires.c_bound.0 c.requires.filled c.item_expression-in-And.ensures refl
    _ c.connective_of.ensures c.in-And.is c.item_expression-in-And-2.ensures refl
