use Rattle.survey_lines.proofs.LineLaws.{edge_put}
use Rattle.survey_lines.proofs.EdgesTable.put_entry.Goals as goal

pub returns : goal.returns
returns c = edge_put _ _ c.field.ensures c.field-2.ensures c.put_line.ensures
