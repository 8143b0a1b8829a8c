use mathlib.Core.Path.{◌≡◌, ◌∙◌}
use Prim.Native.Nat.{◌+◌, ◌-◌, ◌*◌, ◌<◌}
use native.Mathlib.Omega.{arith}
use Rattle.image_fields.specs.Image.{items_place, first_of}
use Rattle.image_fields.proofs.ImageLaws.{tree-items}
use Rattle.walk_places.proofs.PlaceLaws.{block_there, marking_start, marking_in, marking_low, marking_few, marking_more, marking_done}
use Rattle.walk_places.proofs.mark_items.Goals as goal
use Rattle.walk_places.proofs.mark_items.Goals.{In-loop-i}

-- a turn is about an item of e, at its byte
inside : (c : In-loop-i) → first_of c.args.image.bytes.now c.args.e < c.loop-i.i
inside c = omega (arith, c.loop-i-test.true, c.first_item-first.ensures)

byte : (c : In-loop-i) → c.items_at-items_at.result + 4 * (c.loop-i.i - 1) ≡ items_place c.args.image.bytes.now + 4 * (c.loop-i.i - 1)
byte c = omega (arith, c.items_at-items_at.ensures, c.requires.idle.1.start)

pub rule-rule-requires : goal.rule-rule-requires
rule-rule-requires c = (c.requires.e_bound.0, c.items_at-items_at.ensures ∙ c.requires.idle.1.start)

pub overflow_step-i : goal.overflow_step-i
overflow_step-i c = omega (
  arith,
  c.first_item-first.ensures,
  c.item_count.ensures,
  tree-items _ _ c.requires.e_bound.0,
  c.args.image.accepted.runs _ c.requires.e_bound.0,
  c.args.image.accepted.sized.items-few,
)

pub loop-i-init : goal.loop-i-init
loop-i-init c = marking_start
    (omega (arith, c.first_item-first.ensures, c.item_count.ensures, tree-items _ _ c.requires.e_bound.0)) c.requires.e_bound.1
    c.requires.idle.0 c.requires.idle.1

pub overflow_mul-i : goal.overflow_mul-i
overflow_mul-i c = omega (arith, marking_in c.loop-i.invariant c.args.image.accepted c.requires.e_bound.0 (inside ((goal.at.overflow_mul-i c).In-loop-i)) (byte ((goal.at.overflow_mul-i c).In-loop-i)))

pub overflow_add-items_at : goal.overflow_add-items_at
overflow_add-items_at c = omega (arith, marking_in c.loop-i.invariant c.args.image.accepted c.requires.e_bound.0 (inside ((goal.at.overflow_add-items_at c).In-loop-i)) (byte ((goal.at.overflow_add-items_at c).In-loop-i)))

pub first_from-next-requires : goal.first_from-next-requires
first_from-next-requires c = marking_in c.loop-i.invariant c.args.image.accepted c.requires.e_bound.0 (inside ((goal.at.first_from-next-requires c).In-loop-i)) (byte ((goal.at.first_from-next-requires c).In-loop-i))

pub put-requires : goal.put-requires
put-requires c = record {
  places_bound = (
    c.loop-i.invariant.placed.few,
    block_there c.loop-i.invariant.placed (marking_low c.loop-i.invariant c.args.image.accepted c.requires.e_bound.0 (inside ((goal.at.put-requires c).In-loop-i))),
    omega (arith, marking_low c.loop-i.invariant c.args.image.accepted c.requires.e_bound.0 (inside ((goal.at.put-requires c).In-loop-i)), c.args.image.accepted.sized.items-few),
    marking_few c.loop-i.invariant c.args.image.accepted c.requires.e_bound.0 (inside ((goal.at.put-requires c).In-loop-i)) (byte ((goal.at.put-requires c).In-loop-i)) c.rule-rule.ensures
        c.first_from-next.ensures,
  );
  places_len = c.loop-i.invariant.placed.long;
}

pub loop-i-preserved : goal.loop-i-preserved
loop-i-preserved c = marking_more c.loop-i.invariant c.args.image.accepted c.requires.e_bound.0 (inside ((goal.at.loop-i-preserved c).In-loop-i)) (byte ((goal.at.loop-i-preserved c).In-loop-i)) c.rule-rule.ensures
    c.first_from-next.ensures c.put.ensures

pub returns : goal.returns
returns c = (
  c.loop-i.invariant.few,
  marking_done c.loop-i.invariant (omega (arith, c.loop-i-test.false, c.first_item-first.ensures)),
  c.loop-i.invariant.placed,
)
