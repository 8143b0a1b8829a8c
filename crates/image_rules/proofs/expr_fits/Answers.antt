use mathlib.Core.Path.{sym, ◌∙◌}
use Rattle.image_rules.proofs.RuleLaws.{no_kind, beyond, with_text, without_text}
use Rattle.image_rules.proofs.expr_fits.Goals as goal

pub returns-then-kind-gt-LAST : goal.returns-then-kind-gt-LAST
returns-then-kind-gt-LAST c = no_kind _ _ _ _ c.if-kind-gt-LAST.true

pub returns-then-form-details : goal.returns-then-form-details
returns-then-form-details c = beyond _ _ _ _ c.if-kind-gt-LAST.false c.details.ensures c.if-form-details.true

pub returns-then-texted : goal.returns-then-texted
returns-then-texted c = with_text _ _ _ _ c.if-kind-gt-LAST.false c.details.ensures c.if-form-details.false (sym c.texted.ensures ∙ c.if-texted.true)

pub returns-else-texted : goal.returns-else-texted
returns-else-texted c = without_text _ _ _ _ c.if-kind-gt-LAST.false c.details.ensures c.if-form-details.false (sym c.texted.ensures ∙ c.if-texted.false)
