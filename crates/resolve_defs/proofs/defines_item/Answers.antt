use native.Mathlib.Omega.{arith}
use Rattle.resolve_defs.proofs.DefinitionLaws.{of_parameter, of_field, of_static, of_other, static_named}
use Rattle.resolve_defs.proofs.defines_item.Goals as goal

pub returns-then-role-eq-PARAMETER : goal.returns-then-role-eq-PARAMETER
returns-then-role-eq-PARAMETER c = of_parameter _ _ c.role_at-role.ensures c.if-role-eq-PARAMETER.true

pub returns-then-role-eq-PATTERN_FIELD : goal.returns-then-role-eq-PATTERN_FIELD
returns-then-role-eq-PATTERN_FIELD c = of_field _ _ c.role_at-role.ensures c.name_at-name.ensures c.if-role-eq-PATTERN_FIELD.true

pub returns-then-role-lt-STATIC_EXPR : goal.returns-then-role-lt-STATIC_EXPR
returns-then-role-lt-STATIC_EXPR c = of_other _ _ c.role_at-role.ensures c.if-role-eq-PARAMETER.false c.if-role-eq-PATTERN_FIELD.false (λ l m. omega arith)

pub returns-then-role-gt-INHERIT_FROM : goal.returns-then-role-gt-INHERIT_FROM
returns-then-role-gt-INHERIT_FROM c = of_other _ _ c.role_at-role.ensures c.if-role-eq-PARAMETER.false c.if-role-eq-PATTERN_FIELD.false (λ l m. omega arith)

pub name_kind-requires : goal.name_kind-requires
name_kind-requires c = static_named c.requires c.role_at-role.ensures c.name_at-name.ensures (omega arith) (omega arith)

pub returns : goal.returns
returns c = of_static _ _ c.role_at-role.ensures (rw c.name_at-name.ensures at c.name_kind.ensures) (omega arith) (omega arith)
