use mathlib.Core.Path.{refl, ◌∙◌}
use mathlib.Core.Logic.{inl}
use native.Mathlib.Omega.{arith}
use borrow.Author.Tests.{not-true, not-false}
use Rattle.given.specs.Given.{given}
use Rattle.walk_run.proofs.WalkLaws.{stop-visit, stop-empty, leading-below, led_over, led_all, led_few, ready_led, opened_led, go_on}
use Rattle.walk_run.proofs.LoopLaws.{going_start, going_done, going_skip, going_past, going-stop, going-over, going_more, ruled_past, ruled_behind, paid-from, items_there, items-inside, force_small, force_there, recorded-fits, ready_inside, nodes-small, ready_child, item_there, item_in, item-own, inner-small, child-below}
use mathlib.Core.Path.{ap}
use mathlib.Core.Bool.{not}
use Rattle.walk_run.proofs.+traverse_bindings_traverse_expr.Goals as goal

pub traverse_bindings-item_count-count-requires : goal.traverse_bindings-item_count-count-requires
traverse_bindings-item_count-count-requires t c = c.requires.ready.inside

pub traverse_bindings-first_item-requires : goal.traverse_bindings-first_item-requires
traverse_bindings-first_item-requires t c = c.requires.ready.inside

pub traverse_bindings-overflow_mul-items : goal.traverse_bindings-overflow_mul-items
traverse_bindings-overflow_mul-items t c = omega (
  arith,
  c.requires.ready.accepted.sized.size,
  items-inside _ c.requires.ready.accepted _ c.requires.ready.inside (c.items_at.ensures ∙ c.requires.placed.0.start)
      c.first_item.ensures,
)

pub traverse_bindings-overflow_add-items : goal.traverse_bindings-overflow_add-items
traverse_bindings-overflow_add-items t c = omega (
  arith,
  c.requires.ready.accepted.sized.size,
  items-inside _ c.requires.ready.accepted _ c.requires.ready.inside (c.items_at.ensures ∙ c.requires.placed.0.start)
      c.first_item.ensures,
)

pub traverse_bindings-loop-k-init : goal.traverse_bindings-loop-k-init
traverse_bindings-loop-k-init t c = (
  going_start _ _ c.requires.from_in_bounds.0 c.requires.ready.going
      (omega (arith, c.requires.ready.force_few, paid-from _ (given c.args.resolutions.now c.args.bindings.now) _ _ c.requires.placed.1 c.requires.from_in_bounds.1)),
  inl c.requires.placed.1,
  refl,
  refl,
)

pub traverse_bindings-overflow_mul-at : goal.traverse_bindings-overflow_mul-at
traverse_bindings-overflow_mul-at t c = omega (
  arith,
  item_in _ c.requires.ready.accepted _ c.requires.ready.inside c.loop-k.k
      (items_there _ _ (c.items_at.ensures ∙ c.requires.placed.0.start) c.first_item.ensures)
      c.item_count-count.ensures c.loop-k-test.true,
)

pub traverse_bindings-overflow_add-at : goal.traverse_bindings-overflow_add-at
traverse_bindings-overflow_add-at t c = omega (
  arith,
  item_in _ c.requires.ready.accepted _ c.requires.ready.inside c.loop-k.k
      (items_there _ _ (c.items_at.ensures ∙ c.requires.placed.0.start) c.first_item.ensures)
      c.item_count-count.ensures c.loop-k-test.true,
)

pub traverse_bindings-enters-requires : goal.traverse_bindings-enters-requires
traverse_bindings-enters-requires t c = item_in _ c.requires.ready.accepted _ c.requires.ready.inside c.loop-k.k
    (items_there _ _ (c.items_at.ensures ∙ c.requires.placed.0.start) c.first_item.ensures)
    c.item_count-count.ensures c.loop-k-test.true

pub traverse_bindings-behind-k-requires : goal.traverse_bindings-behind-k-requires
traverse_bindings-behind-k-requires t c = record { e_bound = (c.requires.ready.inside, omega (arith, c.loop-k-test.true, c.item_count-count.ensures)); placed = c.requires.placed.0 }

pub traverse_bindings-loop-k-smaller-then-not-enters : goal.traverse_bindings-loop-k-smaller-then-not-enters
traverse_bindings-loop-k-smaller-then-not-enters t c = omega
    (arith, c.loop-k-test.true, c.behind-k.ensures.ahead, c.behind-k.ensures.inside, c.item_count-count.ensures)

pub traverse_bindings-loop-k-preserved-then-not-enters : goal.traverse_bindings-loop-k-preserved-then-not-enters
traverse_bindings-loop-k-preserved-then-not-enters t c = (
  going_past c.requires.ready.accepted c.requires.ready.inside c.behind-k.ensures
      (going_skip c.loop-k.invariant.0 (omega (arith, c.loop-k-test.true, c.item_count-count.ensures))
      (item_there _ c.requires.ready.accepted _ c.requires.ready.inside c.loop-k.k
      (items_there _ _ (c.items_at.ensures ∙ c.requires.placed.0.start) c.first_item.ensures)
      c.item_count-count.ensures c.loop-k-test.true)
      c.loop-k.invariant.1 c.enters.ensures c.requires.ready.accepted c.requires.ready.inside (not-true _ (ap not c.if-not-enters.true))),
  ruled_past _ _ _ c.loop-k.invariant.1 c.behind-k.ensures.ahead,
  c.loop-k.invariant.2,
  c.loop-k.invariant.3,
)

pub traverse_bindings-overflow_add-k : goal.traverse_bindings-overflow_add-k
traverse_bindings-overflow_add-k t c = omega (arith, c.loop-k-test.true)

pub traverse_bindings-expression_at-child-requires : goal.traverse_bindings-expression_at-child-requires
traverse_bindings-expression_at-child-requires t c = item_in _ c.requires.ready.accepted _ c.requires.ready.inside c.loop-k.k
    (items_there _ _ (c.items_at.ensures ∙ c.requires.placed.0.start) c.first_item.ensures)
    c.item_count-count.ensures c.loop-k-test.true

pub traverse_bindings-binding_in-inner-requires : goal.traverse_bindings-binding_in-inner-requires
traverse_bindings-binding_in-inner-requires t c = item_in _ c.requires.ready.accepted _ c.requires.ready.inside c.loop-k.k
    (items_there _ _ (c.items_at.ensures ∙ c.requires.placed.0.start) c.first_item.ensures)
    c.item_count-count.ensures c.loop-k-test.true

pub traverse_bindings-role_at-role-requires : goal.traverse_bindings-role_at-role-requires
traverse_bindings-role_at-role-requires t c = item_in _ c.requires.ready.accepted _ c.requires.ready.inside c.loop-k.k
    (items_there _ _ (c.items_at.ensures ∙ c.requires.placed.0.start) c.first_item.ensures)
    c.item_count-count.ensures c.loop-k-test.true

pub traverse_bindings-open_binding-requires : goal.traverse_bindings-open_binding-requires
traverse_bindings-open_binding-requires t c = (
  inner-small _ c.requires.ready.accepted _ c.requires.ready.inside c.loop-k.k
      (items_there _ _ (c.items_at.ensures ∙ c.requires.placed.0.start) c.first_item.ensures)
      c.item_count-count.ensures c.loop-k-test.true _ _
      c.binding_in-inner.ensures c.requires.binding_bound.0,
  recorded-fits c.requires.ready c.requires.binding_bound.1 c.loop-k.invariant.0,
)

pub traverse_bindings-inside-inside-requires : goal.traverse_bindings-inside-inside-requires
traverse_bindings-inside-inside-requires t c = record { ready = ready_inside c.requires.ready c.requires.binding_bound.1 c.loop-k.invariant.0 c.open_binding.ensures; state_bound = nodes-small c.requires.ready c.requires.binding_bound.1 c.loop-k.invariant.0 c.open_binding.ensures; ruled = c.loop-k.invariant.1 }

pub traverse_bindings-returns-then-state-eq0 : goal.traverse_bindings-returns-then-state-eq0
traverse_bindings-returns-then-state-eq0 t c = going-stop c.loop-k.invariant.0 (omega (arith, c.loop-k-test.true, c.item_count-count.ensures))
    (item_there _ c.requires.ready.accepted _ c.requires.ready.inside c.loop-k.k
    (items_there _ _ (c.items_at.ensures ∙ c.requires.placed.0.start) c.first_item.ensures)
    c.item_count-count.ensures c.loop-k-test.true)
    c.loop-k.invariant.1 c.enters.ensures (not-false _ (ap not c.if-not-enters.false)) c.role_at-role.ensures c.binding_in-inner.ensures
    c.expression_at-child.ensures c.open_binding.ensures c.open_binding.auto.narrowings c.inside-inside.ensures
    c.inside-inside.auto.working (force_small c.requires.ready c.requires.binding_bound.1 c.loop-k.invariant.0) c.if-state-eq0.true

pub traverse_bindings-traverse_expr-requires : goal.traverse_bindings-traverse_expr-requires
traverse_bindings-traverse_expr-requires t c = (
  omega (
    arith,
    c.decreases,
    (child-below _ c.requires.ready.accepted _ c.requires.ready.inside c.loop-k.k
        (items_there _ _ (c.items_at.ensures ∙ c.requires.placed.0.start) c.first_item.ensures)
        c.item_count-count.ensures c.loop-k-test.true _
        c.enters.ensures (not-false _ (ap not c.if-not-enters.false)) c.expression_at-child.ensures),
  ),
  (
    ready_child c.requires.ready c.requires.binding_bound.1 c.loop-k.invariant.0 c.open_binding.ensures c.inside-inside.ensures
        (omega (arith, c.if-state-eq0.false))
        (child-below _ c.requires.ready.accepted _ c.requires.ready.inside c.loop-k.k
        (items_there _ _ (c.items_at.ensures ∙ c.requires.placed.0.start) c.first_item.ensures)
        c.item_count-count.ensures c.loop-k-test.true _
        c.enters.ensures (not-false _ (ap not c.if-not-enters.false)) c.expression_at-child.ensures),
    (
      inner-small _ c.requires.ready.accepted _ c.requires.ready.inside c.loop-k.k
          (items_there _ _ (c.items_at.ensures ∙ c.requires.placed.0.start) c.first_item.ensures)
          c.item_count-count.ensures c.loop-k-test.true
          _ _
          c.binding_in-inner.ensures c.requires.binding_bound.0,
      c.requires.placed.0,
    ),
  ),
)

pub traverse_bindings-returns-then-state-eq0-2 : goal.traverse_bindings-returns-then-state-eq0-2
traverse_bindings-returns-then-state-eq0-2 t c = going-over c.loop-k.invariant.0 (omega (arith, c.loop-k-test.true, c.item_count-count.ensures))
    (item_there _ c.requires.ready.accepted _ c.requires.ready.inside c.loop-k.k
    (items_there _ _ (c.items_at.ensures ∙ c.requires.placed.0.start) c.first_item.ensures)
    c.item_count-count.ensures c.loop-k-test.true)
    c.loop-k.invariant.1 c.enters.ensures (not-false _ (ap not c.if-not-enters.false)) c.role_at-role.ensures c.binding_in-inner.ensures
    c.expression_at-child.ensures c.open_binding.ensures c.open_binding.auto.narrowings c.inside-inside.ensures
    c.inside-inside.auto.working (force_small c.requires.ready c.requires.binding_bound.1 c.loop-k.invariant.0)
    (omega (arith, c.if-state-eq0.false)) c.traverse_expr.ensures
    (force_there c.requires.ready c.requires.binding_bound.1 c.loop-k.invariant.0)
    (item-own _ c.requires.ready.accepted _ c.requires.ready.inside c.loop-k.k
    (items_there _ _ (c.items_at.ensures ∙ c.requires.placed.0.start) c.first_item.ensures)
    c.item_count-count.ensures c.loop-k-test.true)
    c.requires.ready.accepted c.if-state-eq0-2.true

pub traverse_bindings-loop-k-smaller : goal.traverse_bindings-loop-k-smaller
traverse_bindings-loop-k-smaller t c = omega (arith, c.loop-k-test.true)

pub traverse_bindings-loop-k-preserved : goal.traverse_bindings-loop-k-preserved
traverse_bindings-loop-k-preserved t c = (
  going_more c.loop-k.invariant.0 (omega (arith, c.loop-k-test.true, c.item_count-count.ensures))
      (item_there _ c.requires.ready.accepted _ c.requires.ready.inside c.loop-k.k
      (items_there _ _ (c.items_at.ensures ∙ c.requires.placed.0.start) c.first_item.ensures)
      c.item_count-count.ensures c.loop-k-test.true)
      c.loop-k.invariant.1 c.enters.ensures (not-false _ (ap not c.if-not-enters.false)) c.role_at-role.ensures c.binding_in-inner.ensures
      c.expression_at-child.ensures c.open_binding.ensures c.open_binding.auto.narrowings c.inside-inside.ensures
      c.inside-inside.auto.working (force_small c.requires.ready c.requires.binding_bound.1 c.loop-k.invariant.0)
      (omega (arith, c.if-state-eq0.false)) c.traverse_expr.ensures
      (force_there c.requires.ready c.requires.binding_bound.1 c.loop-k.invariant.0)
      (item-own _ c.requires.ready.accepted _ c.requires.ready.inside c.loop-k.k
      (items_there _ _ (c.items_at.ensures ∙ c.requires.placed.0.start) c.first_item.ensures)
      c.item_count-count.ensures c.loop-k-test.true)
      c.requires.ready.accepted (omega (arith, c.if-state-eq0-2.false)),
  ruled_behind _ _ _ c.loop-k.invariant.1 c.rule_behind-rule.ensures
      (λ p q. c.inside-inside.ensures.elses p (omega (arith, c.if-state-eq0.false)) q),
  c.traverse_expr.auto.edges ∙ c.loop-k.invariant.2,
  c.traverse_expr.auto.exprs ∙ (c.open_binding.auto.exprs ∙ c.loop-k.invariant.3),
)

pub traverse_bindings-returns : goal.traverse_bindings-returns
traverse_bindings-returns t c = going_done c.loop-k.invariant.0 c.requires.ready.accepted c.requires.ready.inside
    (omega (arith, c.loop-k-test.false, c.item_count-count.ensures))

pub traverse_expr-visit-requires : goal.traverse_expr-visit-requires
traverse_expr-visit-requires t c = record { e_bound = (c.requires.ready.inside, c.requires.ready.resolved); binding_bound = (c.requires.binding_bound.0, c.requires.ready.going, c.requires.ready.edges_few) }

pub traverse_expr-returns-then-state-eq0 : goal.traverse_expr-returns-then-state-eq0
traverse_expr-returns-then-state-eq0 t c = stop-visit c.requires.ready c.args.binding c.args.narrowings.now c.args.exprs.now
    c.args.working.now c.visit.ensures c.if-state-eq0.true

pub traverse_expr-item_count-count-requires : goal.traverse_expr-item_count-count-requires
traverse_expr-item_count-count-requires t c = c.requires.ready.inside

pub traverse_expr-returns-then-count-eq0 : goal.traverse_expr-returns-then-count-eq0
traverse_expr-returns-then-count-eq0 t c = stop-empty c.requires.ready c.args.binding c.args.narrowings.now c.args.exprs.now
    c.args.working.now c.visit.ensures c.item_count-count.ensures c.if-count-eq0.true

pub traverse_expr-rule-rule-requires : goal.traverse_expr-rule-rule-requires
traverse_expr-rule-rule-requires t c = (c.requires.ready.inside, c.items_at.ensures ∙ c.requires.binding_bound.1.start)

pub traverse_expr-visit_leaves-from-requires : goal.traverse_expr-visit_leaves-from-requires
traverse_expr-visit_leaves-from-requires t c = record {
  leading = leading-below c.requires.ready c.args.binding c.args.narrowings.now c.args.exprs.now c.args.working.now
      c.visit.ensures (omega (arith, c.if-state-eq0.false));
  binding_bound = (c.requires.binding_bound.0, c.rule-rule.ensures, c.requires.binding_bound.1);
}

pub traverse_expr-returns-then-state-eq0-2 : goal.traverse_expr-returns-then-state-eq0-2
traverse_expr-returns-then-state-eq0-2 t c = led_over c.requires.ready c.args.binding c.args.narrowings.now c.args.exprs.now
    c.args.working.now c.visit.ensures (omega (arith, c.if-state-eq0.false)) c.visit_leaves-from.ensures c.if-state-eq0-2.true

pub traverse_expr-returns-then-from-count : goal.traverse_expr-returns-then-from-count
traverse_expr-returns-then-from-count t c = led_all c.requires.ready c.args.binding c.args.narrowings.now c.args.exprs.now
    c.args.working.now c.visit.ensures (omega (arith, c.if-state-eq0.false)) c.visit_leaves-from.ensures
    (omega (arith, c.if-state-eq0-2.false)) c.item_count-count.ensures c.if-from-count.true

pub traverse_expr-traverse_bindings-requires : goal.traverse_expr-traverse_bindings-requires
traverse_expr-traverse_bindings-requires t c = (
  omega (arith, c.decreases),
  (
    ready_led c.requires.ready c.args.binding c.args.narrowings.now c.args.exprs.now c.args.working.now
        c.visit.ensures (omega (arith, c.if-state-eq0.false)) c.visit_leaves-from.ensures (omega (arith, c.if-state-eq0-2.false)),
    (
      (
        c.requires.binding_bound.0,
        opened_led c.requires.ready c.args.binding c.args.narrowings.now c.args.exprs.now c.args.working.now
            c.visit.ensures (omega (arith, c.if-state-eq0.false)) c.visit_leaves-from.ensures (omega (arith, c.if-state-eq0-2.false)),
      ),
      (
        (c.requires.binding_bound.1, c.rule-rule.ensures),
        (
          led_few c.requires.ready c.args.binding c.args.narrowings.now c.args.exprs.now c.args.working.now
              c.visit.ensures (omega (arith, c.if-state-eq0.false)) c.visit_leaves-from.ensures (omega (arith, c.if-state-eq0-2.false)),
          λ z. c.rule-rule.ensures ∙ c.visit_leaves-from.ensures.bare z,
        ),
      ),
    ),
  ),
)

pub traverse_expr-returns : goal.traverse_expr-returns
traverse_expr-returns t c = go_on c.requires.ready c.args.binding c.args.narrowings.now c.args.exprs.now
    c.args.working.now c.visit.ensures (omega (arith, c.if-state-eq0.false)) c.visit_leaves-from.ensures
    (omega (arith, c.if-state-eq0-2.false)) c.traverse_bindings.ensures
