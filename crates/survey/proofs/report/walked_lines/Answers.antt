use Rattle.survey_lines.specs.Lines.{edge_lines, bind_lines, narrow_lines}
use Rattle.survey_lines.proofs.PageLaws.{both}
use Rattle.survey.proofs.report.walked_lines.Goals as goal

pub returns : goal.returns
unfolding edge_lines bind_lines narrow_lines
returns c = both (both (both c.put_line.ensures c.put_lines.ensures) c.put_lines-2.ensures) c.put_lines-3.ensures
