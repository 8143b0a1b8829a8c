use Rattle.walk_visit.proofs.ItemLaws.{enters-nothing, enters-role}
use Rattle.walk_visit.proofs.items.enters.Goals as goal

pub returns-then-expression_at-eq-NONE : goal.returns-then-expression_at-eq-NONE
returns-then-expression_at-eq-NONE c = enters-nothing _ _ c.expression_at.ensures c.if-expression_at-eq-NONE.true

pub returns : goal.returns
returns c = enters-role _ _ c.expression_at.ensures c.if-expression_at-eq-NONE.false c.role_at.ensures c.role_enters.ensures
