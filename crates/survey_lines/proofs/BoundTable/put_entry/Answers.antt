use Rattle.survey_lines.proofs.LineLaws.{unbound, bind_put}
use Rattle.survey_lines.proofs.BoundTable.put_entry.Goals as goal

pub returns-in_default : goal.returns-in_default
returns-in_default c = unbound _ _ c.requires _ c.binding_expr.ensures c.in_default.is

pub returns : goal.returns
returns c = bind_put _ _ c.requires _ c.binding_expr.ensures c.in-Some.is c.put_line.ensures
