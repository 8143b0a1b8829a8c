use mathlib.Core.Path.{◌∙◌}
use Rattle.lent.proofs.FillLaws.{filling_start, filling_more}
use Rattle.resolve_settle.proofs.EndLaws.{unmarking_entry, unmarking_done}
use Rattle.resolve_settle.proofs.unmark_all.Goals as goal

pub loop-e-init : goal.loop-e-init
loop-e-init c = filling_start _ _ _ c.requires.1

pub loop-e-preserved : goal.loop-e-preserved
loop-e-preserved c = filling_more c.loop-e.invariant c.loop-e-test.true
    (c.unmark-entry.ensures ∙ unmarking_entry c.loop-e.invariant c.two.ensures) c.put16.ensures

pub returns : goal.returns
returns c = unmarking_done c.loop-e.invariant c.loop-e-test.false
