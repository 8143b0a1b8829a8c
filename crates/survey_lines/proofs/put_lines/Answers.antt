use native.Mathlib.Omega.{arith}
use Rattle.survey_lines.proofs.PageLaws.{no_lines, line_more, lines_done}
use Rattle.survey_lines.proofs.put_lines.Goals as goal

pub loop-i-init : goal.loop-i-init
loop-i-init g c = no_lines _

pub loop-i-preserved : goal.loop-i-preserved
loop-i-preserved g c = line_more _ _ c.loop-i.invariant c.put_entry.ensures

pub returns : goal.returns
returns g c = lines_done _ (omega (arith, c.entries-i-end.ensures)) c.loop-i.invariant
