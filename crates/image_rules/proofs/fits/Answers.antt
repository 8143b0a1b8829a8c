use Rattle.image_rules.proofs.RuleLaws.{marked-has, marked-has_not, marked-none, marked-one}
use Rattle.image_rules.proofs.fits.Goals as goal

pub returns-then-mark-eq-HAS : goal.returns-then-mark-eq-HAS
returns-then-mark-eq-HAS c = marked-has _ _ _ c.if-mark-eq-HAS.true

pub returns-then-mark-eq-HAS_NOT : goal.returns-then-mark-eq-HAS_NOT
returns-then-mark-eq-HAS_NOT c = marked-has_not _ _ _ c.if-mark-eq-HAS.false c.if-mark-eq-HAS_NOT.true

pub returns-then-x-eq-NONE : goal.returns-then-x-eq-NONE
returns-then-x-eq-NONE c = marked-none _ _ _ c.if-mark-eq-HAS.false c.if-mark-eq-HAS_NOT.false c.if-x-eq-NONE.true

pub returns : goal.returns
returns c = marked-one _ _ _ c.if-mark-eq-HAS.false c.if-mark-eq-HAS_NOT.false c.if-x-eq-NONE.false
