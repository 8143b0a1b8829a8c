use mathlib.Core.Path.{refl}
use native.Mathlib.Omega.{arith}
use Rattle.walk.proofs.RunLaws.{ready_entry}
use Rattle.walk_need.proofs.OutcomeLaws.{need_unaffordable, need_over, need_told}
use borrow.Author.Tests.{not-true}
use mathlib.Core.Path.{ap}
use mathlib.Core.Bool.{not}
use Rattle.walk_need.proofs.need.Goals as goal

pub returns-then-not-affordable : goal.returns-then-not-affordable
returns-then-not-affordable c = need_unaffordable _ _ _ c.affordable.ensures (not-true _ (ap not c.if-not-affordable.true))

pub traverse-requires : goal.traverse-requires
traverse-requires c = record { ready = ready_entry _ _ _ _ refl c.entry-entry.ensures c.args.image.accepted (omega (arith, c.ranges)) c.requires.0 c.requires.1; binding_bound = omega arith }

pub returns-then-state-eq0 : goal.returns-then-state-eq0
returns-then-state-eq0 c = need_over _ _ _ _ refl c.entry-entry.ensures c.traverse.ensures c.if-state-eq0.true

pub returns : goal.returns
returns c = need_told _ _ _ _ refl c.entry-entry.ensures c.traverse.ensures c.if-state-eq0.false
