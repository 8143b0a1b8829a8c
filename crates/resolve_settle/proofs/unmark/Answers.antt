use Rattle.resolve_settle.proofs.EndLaws.{unmark_with, unmark_other}
use Rattle.resolve_settle.proofs.unmark.Goals as goal

pub returns-then-entry-eq-NO_WITH : goal.returns-then-entry-eq-NO_WITH
returns-then-entry-eq-NO_WITH c = unmark_with c.if-entry-eq-NO_WITH.true

pub returns : goal.returns
returns c = unmark_other c.if-entry-eq-NO_WITH.false
