use mathlib.Core.Path.{refl}
use Rattle.image_rules.proofs.RuleLaws.{details-at}
use Rattle.image_rules.proofs.BareLaws.{bare_details, bare, bare-texted, bare-kind, bare-text, bare-detail}
use Rattle.image_rules.proofs.bare_fits.Goals as goal

pub returns-then-form-eq-REFERENCE : goal.returns-then-form-eq-REFERENCE
unfolding bare
returns-then-form-eq-REFERENCE c = bare-texted _ _ _ c.if-form-eq-REFERENCE.true refl refl refl

pub returns-then-form-eq-STRING : goal.returns-then-form-eq-STRING
unfolding bare
returns-then-form-eq-STRING c = bare-texted _ _ _ c.if-form-eq-STRING.true refl refl refl

pub returns-then-text-ne-NONE : goal.returns-then-text-ne-NONE
returns-then-text-ne-NONE c = bare-text _ _ _ c.if-form-eq-REFERENCE.false c.if-form-eq-STRING.false c.if-text-ne-NONE.true

pub returns-then-kind-gt-LAST : goal.returns-then-kind-gt-LAST
returns-then-kind-gt-LAST c = bare-kind _ _ _ c.if-kind-gt-LAST.true

pub returns : goal.returns
unfolding bare
returns c = bare-detail _ _ _ c.if-form-eq-REFERENCE.false c.if-form-eq-STRING.false c.if-text-ne-NONE.false c.if-kind-gt-LAST.false (details-at bare_details _ refl _ c.if-kind-gt-LAST.false c.part.ensures)
