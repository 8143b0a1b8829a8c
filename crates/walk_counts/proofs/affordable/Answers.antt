use Rattle.walk_counts.proofs.TallyLaws.{walk-not_asked, walk_asked}
use Rattle.walk_counts.proofs.affordable.Goals as goal

pub returns-then-budget-expr_count : goal.returns-then-budget-expr_count
returns-then-budget-expr_count c = walk-not_asked c.expr_count.ensures c.if-budget-expr_count.true

pub returns : goal.returns
returns c = walk_asked c.count_in.ensures
