use mathlib.Core.Path.{refl, sym, ◌∙◌}
use native.Mathlib.Omega.{arith}
use borrow.Author.Tests.{not-true, not-false}
use Rattle.image_fields.proofs.ImageLaws.{tree-items}
use Rattle.resolve_events.proofs.HeldLaws.{held-few}
use Rattle.resolve_events.proofs.VisitLaws.{ready_on, expr_again, expr-leaf, expr-below}
use Rattle.resolve_events.proofs.LoopLaws.{turn_here, turn_in, left-next, left_again, going_start, going-few, going_done, going_again}
use Rattle.resolve_events.proofs.LoopLaws.{place_asks, place-few, going_skip, going_later, going_more, child-below, ready_child}
use mathlib.Core.Path.{ap}
use mathlib.Core.Bool.{not}
use Prim.Native.Nat.{ℕ, ◌+◌, ◌*◌, ◌≤◌, ◌<◌}
use mathlib.Core.Path.{◌≡◌}
use lib.ListN.{length}
use Rattle.semantics.specs.Tree.{item_at}
use Rattle.image_fields.specs.Image.{count_of, item_here, decode}
use Rattle.resolve_events.proofs.+traverse_bindings_traverse_expr.Goals as goal
use Rattle.resolve_events.proofs.+traverse_bindings_traverse_expr.Goals.{traverse_bindings-After-place}

-- the item that a turn looks at
few : {t : ℕ} (c : traverse_bindings-After-place t) → c.place.result < count_of c.args.image.bytes.now c.args.e
few c = place-few c.requires c.loop-k.invariant c.if-k-eq0.false refl c.kind-kind.ensures c.place.ensures

here : {t : ℕ} (c : traverse_bindings-After-place t) → item_at (decode c.args.image.bytes.now) c.args.e c.place.result ≡ item_here c.args.image.bytes.now (c.item_place-items.result + 4 * c.place.result)
here c = turn_here _ c.args.image.accepted _ c.requires.inside c.place.result c.item_place-items.ensures (few c)

inside : {t : ℕ} (c : traverse_bindings-After-place t) → c.item_place-items.result + 4 * c.place.result + 4 ≤ length c.args.image.bytes.now
inside c = turn_in _ c.args.image.accepted _ c.requires.inside c.place.result c.item_place-items.ensures (few c)

pub traverse_bindings-loop-k-init : goal.traverse_bindings-loop-k-init
traverse_bindings-loop-k-init t c = going_start c.requires c.kind-kind.ensures c.item_count-k.ensures
    c.first_round-round.ensures

pub traverse_bindings-end-now_at-requires : goal.traverse_bindings-end-now_at-requires
traverse_bindings-end-now_at-requires t c = (
  omega (arith, c.requires.inside, c.args.image.accepted.sized.exprs-few),
  omega (arith, held-few c.requires.held, c.args.image.accepted.sized.exprs-few),
  omega (arith, going-few c.requires c.loop-k.invariant, c.args.image.accepted.sized.exprs-few),
)

pub traverse_bindings-returns-then-not-outside : goal.traverse_bindings-returns-then-not-outside
traverse_bindings-returns-then-not-outside t c = going_done c.requires c.loop-k.invariant c.if-k-eq0.true c.kind-kind.ensures
    c.ends_with.ensures refl c.end-now_at.ensures (not-true _ (ap not c.if-not-outside.true))

pub traverse_bindings-loop-k-smaller-then-k-eq0 : goal.traverse_bindings-loop-k-smaller-then-k-eq0
traverse_bindings-loop-k-smaller-then-k-eq0 t c = left_again _ (c.loop-k.invariant.flag (not-false _ (ap not c.if-not-outside.false)))
    (omega (
      arith,
      c.item_count-k-then-k-eq0.ensures,
      tree-items _ _ c.requires.inside,
      c.args.image.accepted.runs _ c.requires.inside,
      c.args.image.accepted.sized.items-few,
    ))

pub traverse_bindings-loop-k-preserved-then-k-eq0 : goal.traverse_bindings-loop-k-preserved-then-k-eq0
traverse_bindings-loop-k-preserved-then-k-eq0 t c = going_again c.requires c.loop-k.invariant c.if-k-eq0.true c.kind-kind.ensures
    c.ends_with.ensures refl c.end-now_at.ensures (not-false _ (ap not c.if-not-outside.false)) c.item_count-k-then-k-eq0.ensures

pub traverse_bindings-place-requires : goal.traverse_bindings-place-requires
traverse_bindings-place-requires t c = place_asks c.requires c.loop-k.invariant c.if-k-eq0.false refl c.kind-kind.ensures

pub traverse_bindings-overflow_mul-item : goal.traverse_bindings-overflow_mul-item
traverse_bindings-overflow_mul-item t c = omega (arith, inside ((goal.at.traverse_bindings-overflow_mul-item t c).After-place))

pub traverse_bindings-overflow_add-item : goal.traverse_bindings-overflow_add-item
traverse_bindings-overflow_add-item t c = omega (arith, inside ((goal.at.traverse_bindings-overflow_add-item t c).After-place))

pub traverse_bindings-role_at-role-requires : goal.traverse_bindings-role_at-role-requires
traverse_bindings-role_at-role-requires t c = inside ((goal.at.traverse_bindings-role_at-role-requires t c).After-place)

pub traverse_bindings-expression_at-child-requires : goal.traverse_bindings-expression_at-child-requires
traverse_bindings-expression_at-child-requires t c = inside ((goal.at.traverse_bindings-expression_at-child-requires t c).After-place)

pub traverse_bindings-traverse_expr-now_at-requires : goal.traverse_bindings-traverse_expr-now_at-requires
traverse_bindings-traverse_expr-now_at-requires t c = (
  omega (
    arith,
    c.decreases,
    child-below c.requires c.loop-k.invariant c.if-k-eq0.false refl c.kind-kind.ensures c.place.ensures (here ((goal.at.traverse_bindings-traverse_expr-now_at-requires t c).After-place))
        c.role_at-role.ensures c.expression_at-child.ensures c.when.ensures c.in-Now.is,
  ),
  ready_child c.requires c.loop-k.invariant c.if-k-eq0.false refl c.kind-kind.ensures c.place.ensures (here ((goal.at.traverse_bindings-traverse_expr-now_at-requires t c).After-place))
      c.role_at-role.ensures c.expression_at-child.ensures c.when.ensures c.in-Now.is c.around-with.ensures,
)

pub traverse_bindings-loop-k-smaller-in-Now : goal.traverse_bindings-loop-k-smaller-in-Now
traverse_bindings-loop-k-smaller-in-Now t c = left-next _ c.if-k-eq0.false refl

pub traverse_bindings-loop-k-preserved-in-Now : goal.traverse_bindings-loop-k-preserved-in-Now
traverse_bindings-loop-k-preserved-in-Now t c = going_more c.requires c.loop-k.invariant c.if-k-eq0.false refl c.kind-kind.ensures
    c.place.ensures (here ((goal.at.traverse_bindings-loop-k-preserved-in-Now t c).After-place))
    c.role_at-role.ensures c.expression_at-child.ensures c.when.ensures c.in-Now.is c.around-with.ensures c.traverse_expr-now_at.ensures

pub traverse_bindings-loop-k-smaller-in-Not : goal.traverse_bindings-loop-k-smaller-in-Not
traverse_bindings-loop-k-smaller-in-Not t c = left-next _ c.if-k-eq0.false refl

pub traverse_bindings-loop-k-preserved-in-Not : goal.traverse_bindings-loop-k-preserved-in-Not
traverse_bindings-loop-k-preserved-in-Not t c = going_skip c.requires c.loop-k.invariant c.if-k-eq0.false refl c.kind-kind.ensures
    c.place.ensures (here ((goal.at.traverse_bindings-loop-k-preserved-in-Not t c).After-place))
    c.role_at-role.ensures c.expression_at-child.ensures c.when.ensures c.in-Not.is

pub traverse_bindings-loop-k-smaller : goal.traverse_bindings-loop-k-smaller
traverse_bindings-loop-k-smaller t c = left-next _ c.if-k-eq0.false refl

pub traverse_bindings-loop-k-preserved : goal.traverse_bindings-loop-k-preserved
traverse_bindings-loop-k-preserved t c = going_later c.requires c.loop-k.invariant c.if-k-eq0.false refl c.kind-kind.ensures
    c.place.ensures (here ((goal.at.traverse_bindings-loop-k-preserved t c).After-place))
    c.role_at-role.ensures c.expression_at-child.ensures c.when.ensures c.in-Later.is

pub traverse_expr-returns-then-two-ne0 : goal.traverse_expr-returns-then-two-ne0
traverse_expr-returns-then-two-ne0 t c = expr_again c.requires (λ q. c.if-two-ne0.true (c.two.ensures ∙ q))

pub traverse_expr-returns-then-count-eq0 : goal.traverse_expr-returns-then-count-eq0
traverse_expr-returns-then-count-eq0 t c = expr-leaf c.requires (sym c.two.ensures ∙ c.if-two-ne0.false) c.enter-here.ensures
    c.item_count-count.ensures c.if-count-eq0.true

pub traverse_expr-traverse_bindings-requires : goal.traverse_expr-traverse_bindings-requires
traverse_expr-traverse_bindings-requires t c = (omega arith, ready_on c.requires c.enter-here.ensures)

pub traverse_expr-returns : goal.traverse_expr-returns
traverse_expr-returns t c = expr-below c.requires (sym c.two.ensures ∙ c.if-two-ne0.false) c.enter-here.ensures
    c.traverse_bindings.ensures
