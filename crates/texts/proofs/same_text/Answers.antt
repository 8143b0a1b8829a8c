use Rattle.texts.proofs.PairLaws.{lengths_differ}
use Rattle.texts.proofs.same_text.Goals as goal

pub returns-then-a-b : goal.returns-then-a-b
returns-then-a-b c = lengths_differ _ _ c.if-a-b.true
