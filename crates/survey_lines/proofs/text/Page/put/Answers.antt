use Rattle.survey_lines.proofs.PageLaws.{typed-room, typed_full}
use Rattle.survey_lines.proofs.text.Page.put.Goals as goal

pub returns-then-self : goal.returns-then-self
returns-then-self c = typed-room _ _ c.if-self.true

pub returns-else-self : goal.returns-else-self
returns-else-self c = typed_full _ _ c.if-self.false
