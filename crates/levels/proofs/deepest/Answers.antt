use Prim.Native.Nat.{◌<◌}
use native.Mathlib.Omega.{arith}
use mathlib.Core.Path.{◌≡◌, ◌∙◌}
use Rattle.image_fields.specs.Image.{count_of}
use Rattle.image_fields.proofs.ImageLaws.{tree-items}
use Rattle.levels.proofs.LoopLaws.{deepening_start, deepening_skip, deepening_more, deepening_done, child-below}
use Rattle.levels.proofs.deepest.Goals as goal
use Rattle.levels.proofs.deepest.Goals.{After-item_expression-child, then-child-ne-NONE, else-child-ne-NONE}

-- what the item that a turn looks at names
child : (c : After-item_expression-child) → (c.item_expression-child.result ≡ 16383 → ⊥) → c.item_expression-child.result < c.args.e
child c =
    let k : c.loop-k.k < count_of c.args.image.bytes.now c.args.e = omega (arith, c.loop-k.invariant.number, c.loop-k-test.true, tree-items c.args.image.bytes.now c.args.e c.requires.e_bound) in
    child-below _ c.args.image.accepted _ c.requires.e_bound c.loop-k.k k c.item_expression-child.ensures

pub loop-k-init : goal.loop-k-init
loop-k-init c = deepening_start _ _ c.item_count-count.ensures

pub item_expression-child-requires : goal.item_expression-child-requires
item_expression-child-requires c =
    (c.requires.e_bound, omega (arith, c.loop-k.invariant.number, c.loop-k-test.true, tree-items c.args.image.bytes.now c.args.e c.requires.e_bound))

pub offset_bounds-levels-child : goal.offset_bounds-levels-child
offset_bounds-levels-child c = omega (arith, child ((goal.at.offset_bounds-levels-child c).After-item_expression-child) c.if-child-ne-NONE.true, c.requires.e_bound, c.args.image.accepted.sized.exprs-few)

pub bounds-levels-child : goal.bounds-levels-child
bounds-levels-child c = omega (arith, child ((goal.at.bounds-levels-child c).After-item_expression-child) c.if-child-ne-NONE.true, c.requires.known.long)

pub loop-k-preserved : goal.loop-k-preserved
loop-k-preserved c =
    elim c.if-child-ne-NONE.branch [
      | then-child-ne-NONE w ↦
          deepening_more c.loop-k.invariant c.loop-k-test.true c.item_expression-child.ensures w.if-child-ne-NONE.true
          (w.from-below.ensures ∙ c.requires.known.known _ (child ((goal.at.loop-k-preserved c).After-item_expression-child) w.if-child-ne-NONE.true)) (w.best-is ∙ w.max-best.ensures)
      | else-child-ne-NONE w ↦
          rw w.best-is (deepening_skip c.loop-k.invariant c.loop-k-test.true c.item_expression-child.ensures w.if-child-ne-NONE.false)
    ]

pub returns : goal.returns
returns c = deepening_done c.loop-k.invariant c.loop-k-test.false
