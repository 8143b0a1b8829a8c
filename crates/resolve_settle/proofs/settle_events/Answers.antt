use mathlib.Core.Path.{refl}
use native.Mathlib.Omega.{arith}
use Rattle.resolve_settle.proofs.SettledLaws.{settled-start, event_there, place-few, is-reference, is-other, settled_referred, reference-text, beside_same, beside_then}
use Rattle.resolve_settle.proofs.settle_events.Goals as goal

pub loop-p-init : goal.loop-p-init
loop-p-init c = record {
  known = c.requires.known;
  settled = settled-start c.args.image.accepted c.requires.traced c.requires.begins.none-waits.zero-at c.requires.begins.heads_fit c.requires.begins.lent.room c.requires.begins.lent.table_fits;
  beside = beside_same _ _;
}

pub kind-requires : goal.kind-requires
kind-requires c = event_there c.args.image.accepted c.loop-p.invariant.settled (omega (arith, c.requires.traced.number)) c.two-e.ensures

pub give_names-requires-clause-ends : goal.give_names-requires-clause-ends
give_names-requires-clause-ends c = record { settled = c.loop-p.invariant.settled; next = omega (arith, c.loop-p-test.true, c.requires.traced.number); other = is-other c.args.image.accepted c.loop-p.invariant.settled (omega (arith, c.requires.traced.number)) c.two-e.ensures c.kind.ensures c.if-kind-ne-REFERENCE.true }

pub loop-p-preserved-then-kind-ne-REFERENCE : goal.loop-p-preserved-then-kind-ne-REFERENCE
loop-p-preserved-then-kind-ne-REFERENCE c = record {
  known = c.give_names.ensures.known;
  settled = c.give_names.ensures.settled;
  beside = beside_then c.loop-p.invariant.beside c.give_names.ensures.beside;
}

pub expr_text-x-requires : goal.expr_text-x-requires
expr_text-x-requires c = event_there c.args.image.accepted c.loop-p.invariant.settled (omega (arith, c.requires.traced.number)) c.two-e.ensures

pub class_of-c-requires-clause-x_bound : goal.class_of-c-requires-clause-x_bound
class_of-c-requires-clause-x_bound c = reference-text c.args.image.accepted (event_there c.args.image.accepted c.loop-p.invariant.settled (omega (arith, c.requires.traced.number)) c.two-e.ensures) c.kind.ensures c.if-kind-ne-REFERENCE.false c.expr_text-x.ensures

pub refer-requires-clause-p_bound : goal.refer-requires-clause-p_bound
refer-requires-clause-p_bound c = place-few c.args.image.accepted c.loop-p.invariant.settled (omega (arith, c.requires.traced.number))

pub loop-p-preserved : goal.loop-p-preserved
loop-p-preserved c = record {
  known = c.class_of-c.ensures.known;
  settled = settled_referred c.args.image.accepted c.loop-p.invariant.settled (omega (arith, c.requires.traced.number)) c.two-e.ensures (is-reference c.args.image.accepted c.loop-p.invariant.settled (omega (arith, c.requires.traced.number)) c.two-e.ensures c.kind.ensures c.if-kind-ne-REFERENCE.false)
      (rw (← c.expr_text-x.ensures) c.class_of-c.ensures.class_is) c.class_of-c.ensures.inside refl c.refer.ensures.0 c.refer.ensures.1;
  beside = c.loop-p.invariant.beside;
}
