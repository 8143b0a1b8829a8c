use Rattle.given.proofs.BindingLaws.{no-expr, some-expr}
use Rattle.given.proofs.binding_fits.Goals as goal

pub returns-then-entry-eq-NONE : goal.returns-then-entry-eq-NONE
returns-then-entry-eq-NONE c = no-expr _ (λ i. (c.type_inv.table i).fits) _ _ c.two-entry.ensures c.if-entry-eq-NONE.true

pub returns : goal.returns
returns c = some-expr _ (λ i. (c.type_inv.table i).fits) _ _ c.two-entry.ensures c.requires.1 c.if-entry-eq-NONE.false
