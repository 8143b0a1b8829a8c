use Prim.Native.Nat.{◌<◌}
use mathlib.Core.Path.{refl, ◌∙◌}
use native.Mathlib.Omega.{arith}
use Rattle.image.proofs.OrderedLaws.{part-inside}
use Rattle.narrow_run.proofs.RunLaws.{inverted_there, joins, child-below, ready_on, turning_more, node_over, node-leaf, node-parts, ready_step, sent_each, going_start, going_more, going-over, going_done, part_there, part-number}
use Rattle.narrow_run.proofs.+analyze_node_analyze_parts.Goals as goal

pub analyze_node-returns-then-state-eq0 : goal.analyze_node-returns-then-state-eq0
analyze_node-returns-then-state-eq0 t c = node_over c.loop-state.state refl c.loop-state.invariant c.if-state-eq0.true

pub analyze_node-returns-in-Leaf : goal.analyze_node-returns-in-Leaf
analyze_node-returns-in-Leaf t c = node-leaf c.loop-state.state refl c.loop-state.invariant c.in-Leaf.ensures c.analyze_leaf.ensures

pub analyze_node-item_expression-c-requires : goal.analyze_node-item_expression-c-requires
analyze_node-item_expression-c-requires t c = (
  c.loop-state.invariant.ready.inside,
  part-inside _ c.loop-state.invariant.ready.accepted _ c.loop-state.invariant.ready.inside 0 (inverted_there _ _ c.in-Not.ensures),
)

pub analyze_node-loop-state-smaller : goal.analyze_node-loop-state-smaller
analyze_node-loop-state-smaller t c = child-below c.loop-state.invariant.ready (inverted_there _ _ c.in-Not.ensures) c.item_expression-c.ensures

pub analyze_node-loop-state-preserved : goal.analyze_node-loop-state-preserved
analyze_node-loop-state-preserved t c = turning_more c.loop-state.state refl c.loop-state.invariant c.in-Not.ensures c.item_expression-c.ensures
    c.if-state-eq0.false c.turned-then_from.ensures c.turned-else_from.ensures

pub analyze_node-analyze_parts-requires : goal.analyze_node-analyze_parts-requires
analyze_node-analyze_parts-requires t c = (
  omega (arith, c.loop-state.invariant.below),
  (
    ready_step c.loop-state.state refl c.loop-state.invariant c.if-state-eq0.false (omega arith),
    joins _ _ _ c.connective_of-connective.ensures c.in-And.is,
  ),
)

pub analyze_node-returns-in-And : goal.analyze_node-returns-in-And
analyze_node-returns-in-And t c = node-parts c.loop-state.state refl c.loop-state.invariant _ c.connective_of-connective.ensures c.in-And.is
    c.analyze_parts.ensures

pub analyze_parts-loop-k-init : goal.analyze_parts-loop-k-init
analyze_parts-loop-k-init t c = (going_start c.requires.joins c.requires.ready, c.item_count-k-end.ensures ∙ part-number c.requires.ready c.requires.joins)

pub analyze_parts-item_expression-part-requires : goal.analyze_parts-item_expression-part-requires
analyze_parts-item_expression-part-requires t c = (
  c.requires.ready.inside,
  part-inside _ c.requires.ready.accepted _ c.requires.ready.inside _
      (part_there c.requires.joins (omega (arith, c.loop-k.invariant.1, c.loop-k-test.true))),
)

pub analyze_parts-analyze_node-requires : goal.analyze_parts-analyze_node-requires
analyze_parts-analyze_node-requires t c = let below = child-below c.loop-k.invariant.0.ready (part_there c.requires.joins (omega (arith, c.loop-k.invariant.1, c.loop-k-test.true)))
    c.item_expression-part.ensures in (
      omega (arith, below),
      ready_on c.loop-k.invariant.0.ready (omega (arith, below)) c.loop-k.invariant.0.ready.going (omega arith) (omega arith),
    )

pub analyze_parts-returns-then-state-eq0 : goal.analyze_parts-returns-then-state-eq0
analyze_parts-returns-then-state-eq0 t c = let h : c.loop-k.k < 2 = omega (arith, c.loop-k.invariant.1, c.loop-k-test.true) in
    going-over c.requires.joins c.loop-k.invariant.0 h c.item_expression-part.ensures (sent_each _ _ _ _ _ c.sent.ensures c.sent-2.ensures h)
    (sent_each _ _ _ _ _ c.sent-3.ensures c.sent-4.ensures h) c.analyze_node.ensures c.if-state-eq0.true

pub analyze_parts-loop-k-preserved : goal.analyze_parts-loop-k-preserved
analyze_parts-loop-k-preserved t c = let h : c.loop-k.k < 2 = omega (arith, c.loop-k.invariant.1, c.loop-k-test.true) in (
  going_more c.requires.joins c.loop-k.invariant.0 h c.item_expression-part.ensures (sent_each _ _ _ _ _ c.sent.ensures c.sent-2.ensures h)
      (sent_each _ _ _ _ _ c.sent-3.ensures c.sent-4.ensures h) c.analyze_node.ensures c.if-state-eq0.false,
  c.loop-k.invariant.1,
)

pub analyze_parts-returns : goal.analyze_parts-returns
analyze_parts-returns t c = going_done c.requires.joins c.loop-k.invariant.0 (omega (arith, c.loop-k.invariant.1, c.loop-k-test.false))
