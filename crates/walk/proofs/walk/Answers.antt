use mathlib.Core.Path.{refl, ◌∙◌}
use native.Mathlib.Omega.{arith}
use Rattle.walk.specs.Outcome.{lent}
use Rattle.walk.proofs.OutcomeLaws.{walk_unaffordable, walk-ended}
use Rattle.walk.proofs.RunLaws.{ready_entry}
use borrow.Author.Tests.{not-true}
use mathlib.Core.Path.{ap}
use mathlib.Core.Bool.{not}
use Rattle.walk.proofs.walk.Goals as goal

pub returns-then-not-affordable : goal.returns-then-not-affordable
returns-then-not-affordable c = walk_unaffordable _ _ _ _
    (lent c.args.edges.now c.args.narrowings.now c.args.exprs.now c.args.working.now)
    c.affordable.ensures (not-true _ (ap not c.if-not-affordable.true)) c.exceeded.ensures.0 c.exceeded.ensures.1

pub traverse-requires : goal.traverse-requires
traverse-requires c = record { ready = ready_entry _ _ _ _ refl c.entry-entry.ensures c.args.image.accepted (omega (arith, c.ranges)) c.requires.0 c.requires.1; binding_bound = omega arith }

pub ended-requires : goal.ended-requires
ended-requires c = record {
  names-few = omega (arith, c.name_count-names.ensures, c.args.image.accepted.sized.names-few);
  edges_few = omega (arith, c.traverse.ensures.went.edges);
  few = omega (arith, c.ranges);
}

pub returns : goal.returns
returns c = walk-ended _ _ _ c.args.image.accepted (omega (arith, c.ranges)) refl c.name_count-names.ensures c.entry-entry.ensures
    (lent c.args.edges.now c.args.narrowings.now c.args.exprs.now c.args.working.now)
    c.clear_names.ensures c.traverse.ensures c.traverse.auto.edges c.traverse.auto.narrowings
    (c.traverse.auto.exprs ∙ c.clear_names.auto.exprs) c.traverse.auto.working
    c.ended.ensures
