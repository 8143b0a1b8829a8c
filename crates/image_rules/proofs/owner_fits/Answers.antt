use Rattle.image_rules.proofs.BareLaws.{owner-kind, owner-text, owner-detail, owner-first}
use Rattle.image_rules.proofs.owner_fits.Goals as goal

pub returns-then-kind-gt-LAST : goal.returns-then-kind-gt-LAST
returns-then-kind-gt-LAST c = owner-kind _ _ _ c.if-kind-gt-LAST.true

pub returns-then-text-ne-NONE : goal.returns-then-text-ne-NONE
returns-then-text-ne-NONE c = owner-text _ _ _ c.if-text-ne-NONE.true

pub returns-then-form-eq0 : goal.returns-then-form-eq0
returns-then-form-eq0 c = owner-first _ _ _ c.if-kind-gt-LAST.false c.if-text-ne-NONE.false c.if-form-eq0.true

pub returns : goal.returns
returns c = owner-detail _ _ _ c.if-kind-gt-LAST.false c.if-text-ne-NONE.false c.details.ensures
