use Prim.Native.Nat.{◌+◌, ◌*◌, ◌≤◌, ◌<◌}
use mathlib.Core.Path.{◌≡◌, sym, ◌∙◌}
use native.Mathlib.Omega.{arith}
use lib.ListN.{length, get_or}
use Rattle.semantics.specs.Tree.{no_item, expr_at}
use Rattle.image_fields.specs.Image.{count_of, item_here, decode}
use Rattle.image_fields.proofs.ImageLaws.{tree-items}
use Rattle.resolve_counts.proofs.VisitLaws.{lead_none, lead_six, lead_on, leaf_so, leaf-not, item_read, item_in, child-below}
use Rattle.resolve_counts.proofs.RoomLaws.{pushing_skip, pushing_leaf, pushing_more, pushing_done}
use Rattle.resolve_counts.proofs.push.Goals as goal
use Rattle.resolve_counts.proofs.push.Goals.{Else-child-eq-NONE, In-loop-k, then-item_count-eq0, else-item_count-eq0}

-- the item that a turn looks at
below : (c : In-loop-k) → c.loop-k.k < count_of c.args.image.bytes.now c.args.e
below c = omega (arith, c.loop-k.invariant.number, c.loop-k-test.true, tree-items c.args.image.bytes.now c.args.e c.requires.e_bound.0)

inside : (c : In-loop-k) → c.args.items + 4 * c.first_item.result + 4 * c.loop-k.k + 4 ≤ length c.args.image.bytes.now
inside c = item_in _ c.args.image.accepted _ c.requires.e_bound.0 c.loop-k.k (below c) (omega (arith, c.requires.e_bound.1, c.first_item.ensures))

read : (c : In-loop-k) → get_or (expr_at (decode c.args.image.bytes.now) c.args.e).items c.loop-k.k no_item ≡ item_here
    c.args.image.bytes.now (c.args.items + 4 * c.first_item.result + 4 * c.loop-k.k)
read c = item_read _ c.args.image.accepted _ c.requires.e_bound.0 c.loop-k.k (below c) (omega (arith, c.requires.e_bound.1, c.first_item.ensures))

-- the item that a turn looks at
below_else_child_eq_none : (c : Else-child-eq-NONE) → c.loop-k.k < count_of c.args.image.bytes.now c.args.e
below_else_child_eq_none c = omega (arith, c.loop-k.invariant.number, c.loop-k-test.true, tree-items c.args.image.bytes.now c.args.e c.requires.e_bound.0)

child : (c : Else-child-eq-NONE) → c.expression_at-child.result < c.args.e
child c = child-below _ c.args.image.accepted _ c.requires.e_bound.0 c.loop-k.k (below_else_child_eq_none c) (omega (arith, c.requires.e_bound.1, c.first_item.ensures)) c.expression_at-child.ensures c.if-child-eq-NONE.false

pub overflow_mul-at : goal.overflow_mul-at
overflow_mul-at c = omega (arith, inside ((goal.at.overflow_mul-at c).In-loop-k))

pub overflow_add-at : goal.overflow_add-at
overflow_add-at c = omega (arith, inside ((goal.at.overflow_add-at c).In-loop-k))

pub expression_at-child-requires : goal.expression_at-child-requires
expression_at-child-requires c = inside ((goal.at.expression_at-child-requires c).In-loop-k)

pub loop-k-preserved-then-child-eq-NONE : goal.loop-k-preserved-then-child-eq-NONE
loop-k-preserved-then-child-eq-NONE c = pushing_skip c.loop-k.invariant c.loop-k-test.true (read ((goal.at.loop-k-preserved-then-child-eq-NONE c).In-loop-k)) (lead_none _ (sym c.expression_at-child.ensures ∙ c.if-child-eq-NONE.true))

pub role_at-requires : goal.role_at-requires
role_at-requires c = inside ((goal.at.role_at-requires c).In-loop-k)

pub loop-k-preserved-then-role_at-eq-INHERIT_FROM : goal.loop-k-preserved-then-role_at-eq-INHERIT_FROM
loop-k-preserved-then-role_at-eq-INHERIT_FROM c = pushing_skip c.loop-k.invariant c.loop-k-test.true (read ((goal.at.loop-k-preserved-then-role_at-eq-INHERIT_FROM c).In-loop-k)) (lead_six _ (sym c.role_at.ensures ∙ c.if-role_at-eq-INHERIT_FROM.true))

pub item_count-requires : goal.item_count-requires
item_count-requires c = omega (arith, child ((goal.at.item_count-requires c).Else-child-eq-NONE), c.requires.e_bound.0)

pub add-requires : goal.add-requires
add-requires c = (omega (arith, child ((goal.at.add-requires c).Else-child-eq-NONE), c.requires.e_bound.0, c.requires.image_in_bounds, c.loop-k.invariant.kept), omega (arith, child ((goal.at.add-requires c).Else-child-eq-NONE), c.requires.e_bound.0, c.args.image.accepted.sized.exprs-few), c.requires.e_bound.2)

pub loop-k-preserved : goal.loop-k-preserved
loop-k-preserved c = let visited = lead_on _ (λ six. c.if-role_at-eq-INHERIT_FROM.false (c.role_at.ensures ∙ six)) (λ h. c.if-child-eq-NONE.false (c.expression_at-child.ensures ∙ h)) in
    elim c.if-item_count-eq0.branch [
      | then-item_count-eq0 w ↦ rw (w.room-is, w.leaves-is) (pushing_leaf c.loop-k.invariant c.loop-k-test.true (read ((goal.at.loop-k-preserved c).In-loop-k)) visited
          (leaf_so _ _ (rw c.expression_at-child.ensures at c.item_count.ensures) w.if-item_count-eq0.true))
      | else-item_count-eq0 w ↦ rw (w.room-is, w.leaves-is) (pushing_more c.loop-k.invariant c.loop-k-test.true (read ((goal.at.loop-k-preserved c).In-loop-k)) visited
          (leaf-not _ _ (rw c.expression_at-child.ensures at c.item_count.ensures) w.if-item_count-eq0.false)
          (omega (arith, child ((goal.at.loop-k-preserved c).Else-child-eq-NONE), c.requires.e_bound.0, c.expression_at-child.ensures))
          (rw c.expression_at-child.ensures at w.add.ensures))
    ]

pub returns : goal.returns
returns c = pushing_done c.loop-k.invariant c.loop-k-test.false
