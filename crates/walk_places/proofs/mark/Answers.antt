use Prim.Native.Nat.{◌-◌, ◌<◌}
use native.Mathlib.Omega.{arith}
use Rattle.image_fields.specs.Image.{expr_count}
use Rattle.walk_places.proofs.PlaceLaws.{idle-start, idle-behind, idle-before}
use Rattle.walk_places.proofs.mark.Goals as goal
use Rattle.walk_places.proofs.mark.Goals.{In-loop-e}

-- the expression that a turn is about
inside : (c : In-loop-e) → c.loop-e.e - 1 < expr_count c.args.image.bytes.now
inside c = omega (arith, c.loop-e-test.true, c.loop-e.auto, c.expr_count-e.ensures)

pub item_total-next-requires : goal.item_total-next-requires
item_total-next-requires c = omega (arith, c.args.image.accepted.sized.size)

pub expr_count-e-requires : goal.expr_count-e-requires
expr_count-e-requires c = omega (arith, c.args.image.accepted.sized.size)

pub loop-e-init : goal.loop-e-init
loop-e-init c = (
  omega (arith, c.item_total-next.ensures, c.args.image.accepted.sized.items-few),
  idle-start _ c.args.image.accepted c.expr_count-e.ensures c.item_total-next.ensures,
  c.requires,
)

pub mark_items-next-requires : goal.mark_items-next-requires
mark_items-next-requires c = record {
  e_bound = (inside ((goal.at.mark_items-next-requires c).In-loop-e), c.loop-e.invariant.0);
  idle = (
    idle-behind _ c.args.image.accepted _ (inside ((goal.at.mark_items-next-requires c).In-loop-e)) c.loop-e.invariant.1 (omega (arith, c.loop-e-test.true)),
    c.loop-e.invariant.2,
  );
}

pub loop-e-preserved : goal.loop-e-preserved
loop-e-preserved c = (
  c.mark_items-next.ensures.0,
  idle-before _ c.args.image.accepted _ (inside ((goal.at.loop-e-preserved c).In-loop-e)) c.mark_items-next.ensures.1,
  c.mark_items-next.ensures.2,
)

pub returns : goal.returns
returns c = c.loop-e.invariant.2
