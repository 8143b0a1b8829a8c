use borrow.Author.Tests.{not-true, not-false}
use native.Mathlib.Omega.{arith}
use Rattle.resolve_events.proofs.HeldLaws.{end_not, end_nothing, end_logged}
use mathlib.Core.Path.{ap}
use mathlib.Core.Bool.{not}
use Rattle.resolve_events.proofs.end.Goals as goal

pub returns-then-not-ends : goal.returns-then-not-ends
returns-then-not-ends c = end_not (not-true _ (ap not c.if-not-ends.true))

pub returns-then-at-start : goal.returns-then-at-start
returns-then-at-start c = end_nothing (not-false _ (ap not c.if-not-ends.false)) c.if-at-start.true

pub returns : goal.returns
returns c = end_logged (not-false _ (ap not c.if-not-ends.false)) (omega (arith, c.if-at-start.false)) c.requires.0 c.requires.1
    c.put16.ensures c.put16-2.ensures
