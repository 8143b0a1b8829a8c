use borrow.Author.Tests.{not-true, not-false}
use Rattle.walk_visit.proofs.AnswerLaws.{unopened, is-opened}
use mathlib.Core.Path.{ap}
use mathlib.Core.Bool.{not}
use Rattle.walk_visit.proofs.answers.open_binding.Goals as goal

pub returns-then-not-opens : goal.returns-then-not-opens
returns-then-not-opens c = unopened _ _ _ _ _ _ _ c.opens.ensures (not-true _ (ap not c.if-not-opens.true))

pub returns : goal.returns
returns c = is-opened _ _ _ _ _ _ _ c.opens.ensures (not-false _ (ap not c.if-not-opens.false)) c.record_binding.ensures
