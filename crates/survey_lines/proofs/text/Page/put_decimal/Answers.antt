use borrow.Author.Rules.{rules}
use Rattle.survey_lines.proofs.DecimalLaws.{spells}
use Rattle.survey_lines.proofs.text.Page.put_decimal.Goals as goal

pub returns : goal.returns
returns c = spells _ _ c.decimal-k.ensures.len (search rules) c.decimal-k.ensures.digits c.put_text.ensures
