use Rattle.narrow_counts.proofs.NodeLaws.{not_asked, asked}
use Rattle.narrow_counts.proofs.affordable.Goals as goal

pub returns-then-budget-expr_count : goal.returns-then-budget-expr_count
returns-then-budget-expr_count c = not_asked c.expr_count.ensures c.if-budget-expr_count.true

pub returns : goal.returns
returns c = asked c.requires.1 c.count_in.ensures
