use Rattle.narrow_leaf.proofs.CalleeLaws.{binding-inside, unbound, bound}
use Rattle.narrow_texts.proofs.NumberLaws.{below}
use Rattle.narrow_leaf.proofs.callees.bound_expr.Goals as goal

pub binding_expr-requires : goal.binding_expr-requires
binding_expr-requires c = binding-inside _ _ c.requires.bindings_value _ (below c.expr_as_local_name.ensures.inside c.in_ok-name.was)

pub returns-in_err-name : goal.returns-in_err-name
returns-in_err-name c = rw c.from_residual.ensures (unbound _ _ _ _ c.expr_as_local_name.ensures c.in_err-name.was)

pub returns : goal.returns
returns c = bound _ _ _ _ c.expr_as_local_name.ensures c.in_ok-name.was c.requires.bindings_value c.binding_expr.ensures
