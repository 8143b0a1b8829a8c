use mathlib.Core.Path.{sym, ◌∙◌}
use borrow.Author.Tests.{not-true, not-false}
use Rattle.image_rules.proofs.LambdaLaws.{no_field, field-named, field-nameless}
use mathlib.Core.Path.{ap}
use mathlib.Core.Bool.{not}
use Rattle.image_rules.proofs.field_fits.Goals as goal
use Rattle.image_rules.proofs.field_fits.Goals.{then-not-named_fits+else-part-ne-NAMELESS_FIELD, else-not-named_fits}

pub returns-then-part-ne-NAMELESS_FIELD : goal.returns-then-part-ne-NAMELESS_FIELD
returns-then-part-ne-NAMELESS_FIELD c = no_field _ _ _ (sym c.named_fits.ensures ∙ not-true _ (ap not c.if-not-named_fits.true)) (λ e. c.if-part-ne-NAMELESS_FIELD.true (c.part.ensures ∙ e))

pub returns : goal.returns
returns c =
    rw c.part-2.ensures
    (elim c.if-not-named_fits.branch [
      | then-not-named_fits+else-part-ne-NAMELESS_FIELD w ↦ field-nameless _ _ _ (sym w.part.ensures ∙ w.if-part-ne-NAMELESS_FIELD.false)
      | else-not-named_fits w ↦ field-named _ _ _ (sym c.named_fits.ensures ∙ not-false _ (ap not w.if-not-named_fits.false))
    ])
