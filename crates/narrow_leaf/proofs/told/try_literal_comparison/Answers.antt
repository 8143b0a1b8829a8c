use Rattle.narrow_leaf.proofs.ToldLaws.{no_literal, no_local, literal_there}
use Rattle.narrow_leaf.proofs.told.try_literal_comparison.Goals as goal

pub returns-in_err-prim : goal.returns-in_err-prim
returns-in_err-prim c = rw c.from_residual.ensures (no_literal _ _ _ _ c.expr_literal_primitive.ensures c.in_err-prim.was)

pub returns-in_err-name : goal.returns-in_err-name
returns-in_err-name c = rw c.from_residual-in_err-name.ensures (no_local _ _ _ _ c.expr_literal_primitive.ensures c.expr_as_local_name.ensures c.in_err-name.was)

pub returns : goal.returns
returns c = literal_there _ _ _ _ c.expr_literal_primitive.ensures c.expr_as_local_name.ensures c.in_ok-prim.was c.in_ok-name.was
