use Rattle.std.proofs.lemmas.List.{take_all}
use Rattle.survey_lines.proofs.PageLaws.{nothing, byte_more, reads_as}
use Rattle.survey_lines.proofs.text.Page.put_text.Goals as goal

pub loop-byte-init : goal.loop-byte-init
loop-byte-init c = nothing

pub loop-byte-preserved : goal.loop-byte-preserved
loop-byte-preserved c = byte_more _ _ c.loop-byte-test.true c.loop-byte.invariant c.put.ensures

pub returns : goal.returns
returns c = reads_as (take_all _ _ c.loop-byte-test.false) c.loop-byte.invariant
