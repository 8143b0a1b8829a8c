use Prim.Native.Nat.{◌+◌, ◌*◌, ◌≤◌, ◌<◌}
use mathlib.Core.Path.{◌≡◌, sym, ◌∙◌}
use native.Mathlib.Omega.{arith}
use borrow.Author.Tests.{not-true, not-false}
use lib.ListN.{length, get_or}
use Rattle.semantics.specs.Tree.{no_item, expr_at}
use Rattle.image_fields.specs.Image.{count_of, item_here, decode}
use Rattle.image_fields.proofs.ImageLaws.{tree-items}
use Rattle.resolve_counts.proofs.VisitLaws.{item_read, item_in, child-below}
use Rattle.walk_counts.proofs.PushLaws.{pushing_start, pushing_skip, pushing_more, pushing_done, entered-some}
use mathlib.Core.Path.{ap}
use mathlib.Core.Bool.{not}
use Rattle.walk_counts.proofs.push.Goals as goal
use Rattle.walk_counts.proofs.push.Goals.{After-expression_at-child, In-loop-k}

-- the item that a turn looks at
below : (c : In-loop-k) → c.loop-k.k < count_of c.args.image.bytes.now c.args.e
below c = omega
    (arith, c.loop-k.invariant.number, c.loop-k-test.true, tree-items c.args.image.bytes.now c.args.e c.requires.e_bound.0)

inside : (c : In-loop-k) → c.args.items_at + 4 * c.first_item.result + 4 * c.loop-k.k + 4 ≤ length
    c.args.image.bytes.now
inside c = item_in _ c.args.image.accepted _ c.requires.e_bound.0 c.loop-k.k (below c)
    (omega (arith, c.requires.e_bound.1, c.first_item.ensures))

read : (c : In-loop-k) → get_or (expr_at (decode c.args.image.bytes.now) c.args.e).items c.loop-k.k
    no_item ≡ item_here
    c.args.image.bytes.now (c.args.items_at + 4 * c.first_item.result + 4 * c.loop-k.k)
read c = item_read _ c.args.image.accepted _ c.requires.e_bound.0 c.loop-k.k (below c)
    (omega (arith, c.requires.e_bound.1, c.first_item.ensures))

-- the item that a turn looks at
below_after_expression_at_child : (c : After-expression_at-child) → c.loop-k.k < count_of c.args.image.bytes.now c.args.e
below_after_expression_at_child c = omega
    (arith, c.loop-k.invariant.number, c.loop-k-test.true, tree-items c.args.image.bytes.now c.args.e c.requires.e_bound.0)

child : (c : After-expression_at-child) → c.expression_at-child.result < c.args.e
child c = child-below _ c.args.image.accepted _ c.requires.e_bound.0 c.loop-k.k (below_after_expression_at_child c)
    (omega (arith, c.requires.e_bound.1, c.first_item.ensures)) c.expression_at-child.ensures
    (λ h. entered-some _ _ (sym c.enters.ensures ∙ not-false _ (ap not c.if-not-enters.false)) (sym c.expression_at-child.ensures ∙ h))

pub overflow_mul-first : goal.overflow_mul-first
overflow_mul-first c = omega (arith, c.first_item.ensures, c.args.image.accepted.runs _ c.requires.e_bound.0, c.args.image.accepted.sized.items-few)

pub overflow_add-first : goal.overflow_add-first
overflow_add-first c = omega (
  arith,
  c.first_item.ensures,
  c.args.image.accepted.runs _ c.requires.e_bound.0,
  c.args.image.accepted.sized.items-few,
  c.requires.e_bound.1,
  c.args.image.accepted.sized.exprs-few,
  c.args.image.accepted.sized.names-few,
  c.args.image.accepted.sized.texts-few,
)

pub loop-k-init : goal.loop-k-init
loop-k-init c = pushing_start _ _ _ _ _ c.item_count-k-end.ensures

pub overflow_mul-at : goal.overflow_mul-at
overflow_mul-at c = omega (arith, inside ((goal.at.overflow_mul-at c).In-loop-k))

pub overflow_add-at : goal.overflow_add-at
overflow_add-at c = omega (arith, inside ((goal.at.overflow_add-at c).In-loop-k))

pub enters-requires : goal.enters-requires
enters-requires c = inside ((goal.at.enters-requires c).In-loop-k)

pub loop-k-preserved-then-not-enters : goal.loop-k-preserved-then-not-enters
loop-k-preserved-then-not-enters c = pushing_skip c.loop-k.invariant c.loop-k-test.true (read ((goal.at.loop-k-preserved-then-not-enters c).In-loop-k)) c.enters.ensures
    (not-true _ (ap not c.if-not-enters.true))

pub expression_at-child-requires : goal.expression_at-child-requires
expression_at-child-requires c = inside ((goal.at.expression_at-child-requires c).In-loop-k)

pub add-requires : goal.add-requires
add-requires c = (
  omega (arith, child ((goal.at.add-requires c).After-expression_at-child), c.requires.e_bound.0, c.requires.image_in_bounds, c.loop-k.invariant.kept),
  omega (arith, child ((goal.at.add-requires c).After-expression_at-child), c.requires.e_bound.0, c.args.image.accepted.sized.exprs-few),
  omega (arith, c.requires.e_bound.2),
)

pub loop-k-preserved : goal.loop-k-preserved
loop-k-preserved c = pushing_more c.loop-k.invariant c.loop-k-test.true (read ((goal.at.loop-k-preserved c).In-loop-k)) c.enters.ensures
    (not-false _ (ap not c.if-not-enters.false))
    (omega (arith, child ((goal.at.loop-k-preserved c).After-expression_at-child), c.requires.e_bound.0, c.expression_at-child.ensures))
    (rw c.expression_at-child.ensures at c.add.ensures)

pub returns : goal.returns
returns c = pushing_done c.loop-k.invariant c.loop-k-test.false
