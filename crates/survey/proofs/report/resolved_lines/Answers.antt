use Rattle.survey_lines.specs.Lines.{resolution_lines}
use Rattle.survey.proofs.SurveyLaws.{counted, resolved_put}
use Rattle.survey.proofs.report.resolved_lines.Goals as goal

pub returns : goal.returns
unfolding resolution_lines
returns c =
    resolved_put _ c.requires.1 (counted _ c.expr_count-n.ensures c.requires.3) c.put_line.ensures c.put_lines.ensures c.walk_lines.ensures
