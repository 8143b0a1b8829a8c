use mathlib.Core.Path.{sym, ◌∙◌}
use Rattle.semantics.specs.Tree.{item_at}
use Rattle.image_fields.proofs.ImageLaws.{tree-items}
use Rattle.image_rules.specs.Inside.Machine.{child_below}
use Rattle.image_rules.proofs.ItemLaws.{said}
use Rattle.image_rules.proofs.ChildLaws.{passing-start, passing-more, passing-fails, passing-done}
use Rattle.image_rules.proofs.children_fit.Goals as goal

pub loop-k-init : goal.loop-k-init
loop-k-init c = passing-start (tree-items _ _ c.args.items.runs.inside ∙ sym c.args.items.counted)

pub returns-then-not-plain_fits : goal.returns-then-not-plain_fits
unfolding item_at
returns-then-not-plain_fits c =
    passing-fails c.loop-k.invariant c.loop-k-test.true (said (child_below _) c.word.result c.word.ensures.0 c.plain_fits.ensures c.if-not-plain_fits.true)

pub loop-k-preserved : goal.loop-k-preserved
unfolding item_at
loop-k-preserved c =
    passing-more c.loop-k.invariant c.loop-k-test.true (said (child_below _) c.word.result c.word.ensures.0 c.plain_fits.ensures c.if-not-plain_fits.false)

pub returns : goal.returns
returns c = passing-done c.loop-k.invariant c.loop-k-test.false
