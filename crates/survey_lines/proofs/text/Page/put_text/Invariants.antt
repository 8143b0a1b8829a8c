use Rattle.std.proofs.Common.{take}
use Rattle.survey_lines.specs.Inside.Page.{Printed}
use Rattle.survey_lines.proofs.text.Page.put_text.Given as goal

abbrev pub invariant-loop-byte : goal.invariant-loop-byte
invariant-loop-byte l = Printed (take l.byte-index l.text) l.initial.self l.self
