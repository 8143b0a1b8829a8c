use mathlib.Core.Path.{sym, ◌∙◌}
use Rattle.image_rules.proofs.LambdaLaws.{no_parameter, a_parameter}
use Rattle.image_rules.proofs.parameter_fits.Goals as goal

pub returns-then-part-ne-NONE : goal.returns-then-part-ne-NONE
returns-then-part-ne-NONE c = no_parameter _ _ (λ e. c.if-part-ne-NONE.true (c.part.ensures ∙ e))

pub returns : goal.returns
returns c = c.named_fits.ensures ∙ a_parameter _ _ (sym c.part.ensures ∙ c.if-part-ne-NONE.false)
