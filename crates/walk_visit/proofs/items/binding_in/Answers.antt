use Rattle.walk_visit.proofs.ItemLaws.{binding_around, binding-own, binding-bare, binding-kept}
use Rattle.walk_visit.proofs.items.binding_in.Goals as goal

pub returns-in_default : goal.returns-in_default
returns-in_default c = binding_around _ _ _ c.in_default.not-Bindings

pub returns-then-opens : goal.returns-then-opens
returns-then-opens c = binding-own _ _ _ c.role_at-role.ensures c.opens.ensures c.if-opens.true c.name_at.ensures

pub returns-then-is_bare : goal.returns-then-is_bare
returns-then-is_bare c = binding-bare _ _ _ c.role_at-role.ensures c.opens.ensures c.if-opens.false c.is_bare.ensures c.if-is_bare.true

pub returns : goal.returns
returns c = binding-kept _ _ _ c.role_at-role.ensures c.opens.ensures c.if-opens.false c.is_bare.ensures c.if-is_bare.false
