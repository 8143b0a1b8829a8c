use mathlib.Core.Path.{refl, sym, ◌∙◌}
use native.Mathlib.Omega.{arith}
use Rattle.walk_run.proofs.LoopLaws.{items_there, items-inside, item_in}
use Rattle.walk_run.proofs.LeafLaws.{leaf-start, led_none, led_here, leaf_end, leaf_skip, leaf-below, leaf-over, leaf-more}
use Rattle.walk_run.proofs.visit_leaves.Goals as goal

pub returns-in_default : goal.returns-in_default
returns-in_default c = led_none _ _ _ _ _ _ _ c.requires.leading

pub item_count-count-requires : goal.item_count-count-requires
item_count-count-requires c = c.requires.leading.inside

pub first_item-requires : goal.first_item-requires
first_item-requires c = c.requires.leading.inside

pub overflow_mul-items : goal.overflow_mul-items
overflow_mul-items c = omega (
  arith,
  c.requires.leading.accepted.sized.size,
  items-inside _ c.requires.leading.accepted _ c.requires.leading.inside (c.items_at.ensures ∙ c.requires.binding_bound.2.start) c.first_item.ensures,
)

pub overflow_add-items : goal.overflow_add-items
overflow_add-items c = omega (
  arith,
  c.requires.leading.accepted.sized.size,
  items-inside _ c.requires.leading.accepted _ c.requires.leading.inside (c.items_at.ensures ∙ c.requires.binding_bound.2.start) c.first_item.ensures,
)

pub loop-k-init : goal.loop-k-init
loop-k-init c = (leaf-start _ _ _ _ _ _ _ c.requires.leading, refl)

pub overflow_mul-k : goal.overflow_mul-k
overflow_mul-k c = omega (
  arith,
  item_in _ c.requires.leading.accepted _ c.requires.leading.inside c.loop-k.k
      (items_there _ _ (c.items_at.ensures ∙ c.requires.binding_bound.2.start) c.first_item.ensures) c.item_count-count.ensures c.loop-k-test.true,
)

pub overflow_add-items-in-loop-k : goal.overflow_add-items-in-loop-k
overflow_add-items-in-loop-k c = omega (
  arith,
  item_in _ c.requires.leading.accepted _ c.requires.leading.inside c.loop-k.k
      (items_there _ _ (c.items_at.ensures ∙ c.requires.binding_bound.2.start) c.first_item.ensures) c.item_count-count.ensures c.loop-k-test.true,
)

pub expression_at-child-requires : goal.expression_at-child-requires
expression_at-child-requires c = item_in _ c.requires.leading.accepted _ c.requires.leading.inside c.loop-k.k
    (items_there _ _ (c.items_at.ensures ∙ c.requires.binding_bound.2.start) c.first_item.ensures) c.item_count-count.ensures c.loop-k-test.true

pub returns-then-k-ge-NEAR : goal.returns-then-k-ge-NEAR
returns-then-k-ge-NEAR c = led_here _ _ _ _ _ _ _ c.loop-k.invariant.0 (sym c.in-Others.is ∙ c.requires.binding_bound.1)

pub loop-k-preserved-then-child-eq-NONE : goal.loop-k-preserved-then-child-eq-NONE
loop-k-preserved-then-child-eq-NONE c = (
  leaf_skip _ _ _ _ _ _ _ c.loop-k.invariant.0 (sym c.in-Others.is ∙ c.requires.binding_bound.1)
      (items_there _ _ (c.items_at.ensures ∙ c.requires.binding_bound.2.start) c.first_item.ensures) c.item_count-count.ensures c.loop-k-test.true
      c.expression_at-child.ensures c.if-child-eq-NONE.true,
  c.loop-k.invariant.1,
)

pub item_count-requires : goal.item_count-requires
item_count-requires c = leaf-below _ _ _ _ _ _ _ c.loop-k.invariant.0 (sym c.in-Others.is ∙ c.requires.binding_bound.1)
    (items_there _ _ (c.items_at.ensures ∙ c.requires.binding_bound.2.start) c.first_item.ensures) c.item_count-count.ensures c.loop-k-test.true
    c.expression_at-child.ensures c.if-child-eq-NONE.false

pub returns-then-item_count-ne0 : goal.returns-then-item_count-ne0
returns-then-item_count-ne0 c = led_here _ _ _ _ _ _ _ c.loop-k.invariant.0 (sym c.in-Others.is ∙ c.requires.binding_bound.1)

pub visit-requires : goal.visit-requires
visit-requires c = record {
  e_bound = (
    leaf-below _ _ _ _ _ _ _ c.loop-k.invariant.0 (sym c.in-Others.is ∙ c.requires.binding_bound.1)
        (items_there _ _ (c.items_at.ensures ∙ c.requires.binding_bound.2.start) c.first_item.ensures) c.item_count-count.ensures c.loop-k-test.true
        c.expression_at-child.ensures c.if-child-eq-NONE.false,
    c.requires.leading.resolved,
  );
  binding_bound = (c.requires.binding_bound.0, c.loop-k.invariant.0.leading.going, c.loop-k.invariant.0.leading.edges_few);
}

pub returns-then-state-eq0 : goal.returns-then-state-eq0
returns-then-state-eq0 c = leaf-over _ _ _ _ _ _ _ c.loop-k.invariant.0 (sym c.in-Others.is ∙ c.requires.binding_bound.1)
    (items_there _ _ (c.items_at.ensures ∙ c.requires.binding_bound.2.start) c.first_item.ensures) c.item_count-count.ensures c.loop-k-test.true
    c.expression_at-child.ensures c.if-child-eq-NONE.false c.item_count.ensures c.if-item_count-ne0.false c.visit.ensures c.if-state-eq0.true

pub loop-k-preserved : goal.loop-k-preserved
loop-k-preserved c = (
  leaf-more _ _ _ _ _ _ _ c.loop-k.invariant.0 (sym c.in-Others.is ∙ c.requires.binding_bound.1)
      (items_there _ _ (c.items_at.ensures ∙ c.requires.binding_bound.2.start) c.first_item.ensures) c.item_count-count.ensures c.loop-k-test.true
      c.expression_at-child.ensures c.if-child-eq-NONE.false c.item_count.ensures c.if-item_count-ne0.false c.visit.ensures
      (omega (arith, c.if-state-eq0.false)),
  c.visit.auto.edges ∙ c.loop-k.invariant.1,
)

pub returns : goal.returns
returns c = led_here _ _ _ _ _ _ _ (leaf_end _ _ _ _ _ _ _ c.loop-k.invariant.0 c.loop-k-test.false c.loop-k.auto.k-end) (sym c.in-Others.is ∙ c.requires.binding_bound.1)
