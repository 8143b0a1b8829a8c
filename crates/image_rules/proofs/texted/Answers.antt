use Rattle.image_rules.proofs.RuleLaws.{reference_form, other_form}
use Rattle.image_rules.proofs.texted.Goals as goal

pub returns-then-form-eq-REFERENCE : goal.returns-then-form-eq-REFERENCE
returns-then-form-eq-REFERENCE c = reference_form _ c.if-form-eq-REFERENCE.true

pub returns : goal.returns
returns c = other_form _ c.requires c.if-form-eq-REFERENCE.false
