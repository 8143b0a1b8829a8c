use mathlib.Core.Path.{ap, ◌∙◌}
use native.Mathlib.Omega.{arith}
use Rattle.image_fields.specs.Image.{item_here}
use Rattle.index.proofs.IndexLaws.{entering-start, entering-more, entering-done, items-many, item-is}
use Rattle.index.proofs.enter_all.Goals as goal

pub loop-i-init : goal.loop-i-init
loop-i-init c = entering-start _ _

pub loop-i-preserved : goal.loop-i-preserved
loop-i-preserved c = let n = items-many _ c.args.image.accepted in
    entering-more c.loop-i.invariant (omega arith) (item-is _ c.args.image.accepted c.loop-i.i (omega arith) ∙ ap (item_here c.args.image.bytes.now) (omega arith)) c.enter.ensures c.enter.auto.table

pub returns : goal.returns
returns c = let n = items-many _ c.args.image.accepted in entering-done c.loop-i.invariant (omega arith)
