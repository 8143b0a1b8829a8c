use Rattle.survey_lines.specs.Text.{lines}
use Rattle.survey_lines.specs.Inside.Page.{Printed}
use Rattle.survey_lines.proofs.put_lines.Given as goal

abbrev pub invariant-loop-i : goal.invariant-loop-i
invariant-loop-i g l = Printed (lines (g.T.Table.line l.table) 0 l.i) l.initial.page l.page
