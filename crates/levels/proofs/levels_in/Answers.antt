use Prim.Native.Nat.{◌+◌, ◌<◌, ◌≤◌}
use native.Mathlib.Omega.{arith}
use Rattle.image_fields.specs.Image.{decode, expr_count}
use Rattle.levels.proofs.DepthLaws.{from-few}
use Rattle.levels.proofs.LoopLaws.{one_level, entry_level, entry-inside, known_more, levels_small}
use Rattle.levels.proofs.levels_in.Goals as goal
use Rattle.levels.proofs.levels_in.Goals.{After-deepest, In-loop-e}

-- the expression that a turn looks at, and its levels
inside : (c : In-loop-e) → c.loop-e.e < expr_count c.args.image.bytes.now
inside c = omega (arith, c.loop-e-test.true, c.entry-entry.ensures, entry-inside _ c.args.image.accepted)

few : (c : After-deepest) → 1 + c.deepest.result ≤ c.loop-e.e + 1
few c = omega (arith, one_level _ c.args.image.accepted _ c.deepest.ensures, from-few (decode c.args.image.bytes.now) c.loop-e.e)

pub deepest-requires-clause-e_bound : goal.deepest-requires-clause-e_bound
deepest-requires-clause-e_bound c = inside ((goal.at.deepest-requires-clause-e_bound c).In-loop-e)

pub overflow_add-levels : goal.overflow_add-levels
overflow_add-levels c = omega (arith, few ((goal.at.overflow_add-levels c).After-deepest), inside ((goal.at.overflow_add-levels c).In-loop-e), c.args.image.accepted.sized.exprs-few)

pub overflow_cast-levels : goal.overflow_cast-levels
overflow_cast-levels c = omega (arith, few ((goal.at.overflow_cast-levels c).After-deepest), inside ((goal.at.overflow_cast-levels c).In-loop-e), c.args.image.accepted.sized.exprs-few)

pub bounds-levels-e : goal.bounds-levels-e
bounds-levels-e c = omega (arith, inside ((goal.at.bounds-levels-e c).In-loop-e), c.requires)

pub loop-e-preserved : goal.loop-e-preserved
loop-e-preserved c =
    known_more _ c.args.image.accepted c.loop-e.invariant (omega (arith, inside ((goal.at.loop-e-preserved c).In-loop-e), c.requires))
    (one_level _ c.args.image.accepted _ c.deepest.ensures)

pub deepest-requires-2-clause-e_bound : goal.deepest-requires-2-clause-e_bound
deepest-requires-2-clause-e_bound c = omega (arith, c.entry-entry.ensures, entry-inside _ c.args.image.accepted)

pub overflow_add-result : goal.overflow_add-result
overflow_add-result c = omega (arith, entry_level _ c.args.image.accepted c.entry-entry.ensures c.deepest-2.ensures, levels_small _ c.args.image.accepted)

pub returns : goal.returns
returns c = entry_level _ c.args.image.accepted c.entry-entry.ensures c.deepest-2.ensures
