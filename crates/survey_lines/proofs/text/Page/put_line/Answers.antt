use native.Mathlib.Omega.{arith}
use Rattle.survey_lines.proofs.PageLaws.{no_lines, line_more, both}
use Rattle.survey_lines.proofs.DecimalLaws.{whole-line}
use Rattle.survey_lines.proofs.text.Page.put_line.Goals as goal

pub loop-n-init : goal.loop-n-init
loop-n-init c = no_lines _

pub loop-n-preserved : goal.loop-n-preserved
loop-n-preserved c = line_more _ _ c.loop-n.invariant (both c.put.ensures c.put_decimal.ensures)

pub returns : goal.returns
returns c = whole-line _ c.put_text.ensures c.loop-n.invariant (omega arith) c.put-2.ensures
