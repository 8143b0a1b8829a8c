use Prim.Native.Nat.{◌<◌}
use mathlib.Core.Logic.{inl, inr}
use native.Mathlib.Omega.{arith}
use Rattle.image_fields.proofs.FieldLaws.{field_lt}
use Rattle.index.proofs.IndexLaws.{not_entered, is-entered}
use Rattle.index.proofs.enter.Goals as goal
use Rattle.index.proofs.enter.Goals.{then-role-ne-STATIC_EXPR+else-role-ne-INHERIT_FROM, else-role-ne-STATIC_EXPR}
use Rattle.index.proofs.enter.Goals.{After-put16-arg-1}

pub returns-then-role-ne-INHERIT_FROM : goal.returns-then-role-ne-INHERIT_FROM
returns-then-role-ne-INHERIT_FROM c = not_entered _ _ c.role_at-role.ensures c.if-role-ne-STATIC_EXPR.true c.if-role-ne-INHERIT_FROM.true

few : (c : After-put16-arg-1) → c.name_at-name.result < 16384
few c = rw c.name_at-name.ensures (field_lt _ _ 14)

pub overflow_mul-name : goal.overflow_mul-name
overflow_mul-name c = let h = few ((goal.at.overflow_mul-name c).After-put16-arg-1) in omega arith

pub put16-requires : goal.put16-requires
put16-requires c = let h = few ((goal.at.put16-requires c).After-put16-arg-1) in omega arith

pub returns : goal.returns
returns c = is-entered _ _ c.role_at-role.ensures
    (elim c.if-role-ne-STATIC_EXPR.branch
    [ then-role-ne-STATIC_EXPR+else-role-ne-INHERIT_FROM w ↦ inr w.if-role-ne-INHERIT_FROM.false | else-role-ne-STATIC_EXPR w ↦ inl w.if-role-ne-STATIC_EXPR.false ])
    c.name_at-name.ensures c.expression_at-expression.ensures c.put16.ensures
