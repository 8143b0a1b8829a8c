use Rattle.survey_lines.proofs.LineLaws.{narrow_put}
use Rattle.survey_lines.proofs.NarrowingsTable.put_entry.Goals as goal

pub returns : goal.returns
returns c = narrow_put _ _ c.field.ensures c.field-2.ensures c.field-3.ensures c.field-4.ensures c.put_line.ensures
