use Rattle.given.proofs.EntryLaws.{unbound, bound}
use Rattle.given.proofs.binding_expr.Goals as goal

pub returns-then-e-eq-NONE : goal.returns-then-e-eq-NONE
returns-then-e-eq-NONE c = unbound _ _ c.requires c.field-e.ensures c.if-e-eq-NONE.true

pub returns : goal.returns
returns c = bound _ _ c.requires c.field-e.ensures c.if-e-eq-NONE.false
