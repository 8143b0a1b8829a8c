use mathlib.Core.Path.{◌∙◌}
use native.Mathlib.Omega.{arith}
use Rattle.walk_places.proofs.PlaceLaws.{quiet_new}
use Rattle.walk_run.proofs.WalkLaws.{stop-visit, ready_below, opened-below, finish}
use Rattle.walk_run.proofs.traverse.Goals as goal

pub returns-then-state-eq0 : goal.returns-then-state-eq0
returns-then-state-eq0 c = stop-visit c.requires.ready c.args.binding c.args.narrowings.now c.args.exprs.now
    c.args.working.now c.visit.ensures c.if-state-eq0.true

pub make-requires : goal.make-requires
make-requires c = quiet_new

pub rule-rule-requires : goal.rule-rule-requires
rule-rule-requires c = (c.requires.ready.inside, c.items_at.ensures ∙ c.make.ensures.start)

pub traverse_bindings-requires : goal.traverse_bindings-requires
traverse_bindings-requires c = record {
  ready = ready_below c.requires.ready c.args.binding c.args.narrowings.now c.args.exprs.now c.args.working.now
      c.visit.ensures (omega (arith, c.if-state-eq0.false));
  binding_bound = (
    c.requires.binding_bound,
    opened-below c.requires.ready c.args.binding c.args.narrowings.now c.args.exprs.now c.args.working.now
        c.visit.ensures (omega (arith, c.if-state-eq0.false)),
  );
  placed = (c.make.ensures, c.rule-rule.ensures);
  from_in_bounds = (omega arith, λ z. absurd (omega (arith, z)));
}

pub returns : goal.returns
returns c = finish c.requires.ready c.args.binding c.args.narrowings.now c.args.exprs.now c.args.working.now
    c.visit.ensures c.traverse_bindings.ensures
