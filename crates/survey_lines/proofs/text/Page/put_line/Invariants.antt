use Rattle.std.proofs.Common.{◌∷◌, get_or}
use Rattle.survey_lines.specs.Text.{decimal, lines}
use Rattle.survey_lines.specs.Inside.Page.{Printed}
use Rattle.survey_lines.proofs.text.Page.put_line.Given as goal

abbrev pub invariant-loop-n : goal.invariant-loop-n
invariant-loop-n l = Printed (lines (λ j. 32 ∷ decimal (get_or l.numbers j 0)) 0 l.n-index) l.initial.self l.self
