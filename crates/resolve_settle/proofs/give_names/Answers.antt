use mathlib.Core.Path.{◌≡◌, refl, ap, sym, ◌∙◌}
use mathlib.Core.Bool.{not}
use Prim.Native.Nat.{◌+◌, ◌*◌, ◌-◌, ◌<◌}
use native.Mathlib.Omega.{arith}
use borrow.Author.Tests.{not-true, not-false}
use Rattle.semantics.specs.Tree.{item_at}
use Rattle.image_fields.specs.Image.{expr_count, item_here, decode}
use Rattle.image_fields.proofs.ImageLaws.{tree-items, tree-texts}
use Rattle.resolve_defs.specs.Inside.Items.{AnItem}
use Rattle.resolve_defs.proofs.DefinitionLaws.{item_here_lem, an_item}
use Rattle.text_classes.proofs.NameLaws.{name-text}
use Rattle.resolve_settle.proofs.SettledLaws.{event_there, beside_same, beside_then, giving_start, giving_skip, giving_chained, giving_give, giving_small, giving_beside, settled_leave}
use Rattle.resolve_settle.proofs.give_names.Goals as goal
use Rattle.resolve_settle.proofs.give_names.Goals.{In-loop-k}

-- the item of this turn
event : (c : In-loop-k) → c.two-e.result < expr_count c.args.image.bytes.now
event c = event_there c.args.image.accepted c.requires.ends.settled c.requires.ends.next c.two-e.ensures

item : (c : In-loop-k) → AnItem c.args.image.bytes.now (c.item_place-items.result + 4 * (c.loop-k.k - 1))
item c = an_item _ c.args.image.accepted _ (event c) (c.loop-k.k - 1) (omega (arith, c.loop-k.invariant.0.inside, tree-items _ _ (event c)))
    (omega (arith, c.item_place-items.ensures))

here : (c : In-loop-k) → item_at (decode c.args.image.bytes.now) c.two-e.result (c.loop-k.k - 1) ≡ item_here c.args.image.bytes.now (c.item_place-items.result + 4 * (c.loop-k.k - 1))
here c = item_here_lem _ c.args.image.accepted _ (event c) (c.loop-k.k - 1) (omega (arith, c.loop-k.invariant.0.inside, tree-items _ _ (event c)))
    (omega (arith, c.item_place-items.ensures))

pub item_place-items-requires : goal.item_place-items-requires
item_place-items-requires c = ((event_there c.args.image.accepted c.requires.ends.settled c.requires.ends.next c.two-e.ensures), omega arith)

pub item_count-k-requires : goal.item_count-k-requires
item_count-k-requires c = (event_there c.args.image.accepted c.requires.ends.settled c.requires.ends.next c.two-e.ensures)

pub loop-k-init : goal.loop-k-init
loop-k-init c = (
  giving_start c.args.image.accepted c.requires.ends.settled c.requires.ends.next c.two-e.ensures c.two-start.ensures c.item_count-k.ensures,
  beside_same _ _,
  c.requires.known,
)

pub overflow_mul-at : goal.overflow_mul-at
overflow_mul-at c = omega (
  arith,
  (item ((goal.at.overflow_mul-at c).In-loop-k)).inside,
)

pub overflow_add-at : goal.overflow_add-at
overflow_add-at c = omega (
  arith,
  (item ((goal.at.overflow_add-at c).In-loop-k)).inside,
)

pub defines_item-requires : goal.defines_item-requires
defines_item-requires c = item ((goal.at.defines_item-requires c).In-loop-k)

pub loop-k-preserved-then-not-defines_item : goal.loop-k-preserved-then-not-defines_item
loop-k-preserved-then-not-defines_item c = (
  giving_skip c.args.image.accepted c.loop-k.invariant.0 (omega arith) (here ((goal.at.loop-k-preserved-then-not-defines_item c).In-loop-k)) c.defines_item.ensures (not-true _ (ap not c.if-not-defines_item.true)),
  c.loop-k.invariant.1,
  c.loop-k.invariant.2,
)

pub name_at-name-requires : goal.name_at-name-requires
name_at-name-requires c = (item ((goal.at.name_at-name-requires c).In-loop-k)).inside

pub name_text-requires : goal.name_text-requires
name_text-requires c = rw c.name_at-name.ensures ((item ((goal.at.name_text-requires c).In-loop-k)).defined (sym c.defines_item.ensures ∙ not-false _ (ap not c.if-not-defines_item.false)))

pub class_of-c-requires-clause-x_bound : goal.class_of-c-requires-clause-x_bound
class_of-c-requires-clause-x_bound c = name-text c.args.image.accepted (rw c.name_at-name.ensures ((item ((goal.at.class_of-c-requires-clause-x_bound c).In-loop-k)).defined (sym c.defines_item.ensures ∙ not-false _ (ap not c.if-not-defines_item.false)))) c.name_text.ensures

pub bounds-heads-c : goal.bounds-heads-c
bounds-heads-c c = omega (arith, c.class_of-c.ensures.inside, c.loop-k.invariant.0.holding.heads_fit, tree-texts c.args.image.bytes.now)

pub overflow_add-name : goal.overflow_add-name
overflow_add-name c = omega (
  arith,
  c.name_at-name.ensures,
  c.args.image.accepted.sized.names-few,
  ((item ((goal.at.overflow_add-name c).In-loop-k)).defined (sym c.defines_item.ensures ∙ not-false _ (ap not c.if-not-defines_item.false))),
)

pub settle_chain-rest-requires : goal.settle_chain-rest-requires
settle_chain-rest-requires c = giving_chained c.args.image.accepted c.loop-k.invariant.0 (omega arith) (here ((goal.at.settle_chain-rest-requires c).In-loop-k)) c.defines_item.ensures (not-false _ (ap not c.if-not-defines_item.false)) c.name_at-name.ensures
    (rw c.name_at-name.ensures ((item ((goal.at.settle_chain-rest-requires c).In-loop-k)).defined (sym c.defines_item.ensures ∙ not-false _ (ap not c.if-not-defines_item.false))))
    (rw (← c.name_text.ensures) c.class_of-c.ensures.class_is) c.class_of-c.ensures.inside c.from-head.ensures

pub overflow_cast-heads : goal.overflow_cast-heads
overflow_cast-heads c = record {
  fits = giving_small c.args.image.accepted c.loop-k.invariant.0 (omega arith) (here ((goal.at.overflow_cast-heads c).In-loop-k)) c.defines_item.ensures (not-false _ (ap not c.if-not-defines_item.false)) c.name_at-name.ensures
      (rw c.name_at-name.ensures ((item ((goal.at.overflow_cast-heads c).In-loop-k)).defined (sym c.defines_item.ensures ∙ not-false _ (ap not c.if-not-defines_item.false))))
      (rw (← c.name_text.ensures) c.class_of-c.ensures.class_is) c.class_of-c.ensures.inside c.from-head.ensures refl c.settle_chain-rest.ensures;
}

pub bounds-heads-c-in-loop-k : goal.bounds-heads-c-in-loop-k
bounds-heads-c-in-loop-k c = omega (arith, c.class_of-c.ensures.inside, c.loop-k.invariant.0.holding.heads_fit, tree-texts c.args.image.bytes.now)

pub loop-k-preserved : goal.loop-k-preserved
loop-k-preserved c = (
  giving_give c.args.image.accepted c.loop-k.invariant.0 (omega arith) (here ((goal.at.loop-k-preserved c).In-loop-k)) c.defines_item.ensures (not-false _ (ap not c.if-not-defines_item.false)) c.name_at-name.ensures
      (rw c.name_at-name.ensures ((item ((goal.at.loop-k-preserved c).In-loop-k)).defined (sym c.defines_item.ensures ∙ not-false _ (ap not c.if-not-defines_item.false))))
      (rw (← c.name_text.ensures) c.class_of-c.ensures.class_is) c.class_of-c.ensures.inside c.from-head.ensures refl c.settle_chain-rest.ensures,
  beside_then c.loop-k.invariant.1 (giving_beside c.args.image.accepted c.loop-k.invariant.0 (omega arith) (here ((goal.at.loop-k-preserved c).In-loop-k)) c.defines_item.ensures (not-false _ (ap not c.if-not-defines_item.false)) c.name_at-name.ensures
      (rw c.name_at-name.ensures ((item ((goal.at.loop-k-preserved c).In-loop-k)).defined (sym c.defines_item.ensures ∙ not-false _ (ap not c.if-not-defines_item.false))))
      (rw (← c.name_text.ensures) c.class_of-c.ensures.class_is) c.class_of-c.ensures.inside c.from-head.ensures refl c.settle_chain-rest.ensures),
  c.class_of-c.ensures.known,
)

pub returns : goal.returns
returns c = record {
  known = c.loop-k.invariant.2;
  settled = settled_leave c.args.image.accepted c.requires.ends.settled c.requires.ends.next c.two-e.ensures c.two-start.ensures c.requires.ends.other c.loop-k.invariant.0 (omega arith);
  beside = c.loop-k.invariant.1;
}
