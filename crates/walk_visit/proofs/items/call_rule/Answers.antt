use mathlib.Core.Logic.{inl, inr}
use mathlib.Core.Path.{refl, sym, ◌∙◌}
use native.Mathlib.Omega.{arith}
use Rattle.walk_visit.proofs.ItemLaws.{part_in, rule_call, rule_no-call, rule_nameless}
use Rattle.walk_visit.proofs.items.call_rule.Goals as goal

pub kind-requires : goal.kind-requires
kind-requires c = part_in _ c.args.image.accepted _ c.requires.e_bound.0 refl (inl c.requires.e_bound.1) (omega arith) c.applied-f.ensures

pub returns-then-kind-ne-APPLY : goal.returns-then-kind-ne-APPLY
returns-then-kind-ne-APPLY c = rule_no-call _ _ refl c.requires.e_bound.1 c.applied-f.ensures c.kind.ensures c.if-kind-ne-APPLY.true

pub applied-requires : goal.applied-requires
applied-requires c = record { e_bound = (part_in _ c.args.image.accepted _ c.requires.e_bound.0 refl (inl c.requires.e_bound.1) (omega arith) c.applied-f.ensures, sym c.kind.ensures ∙ c.if-kind-ne-APPLY.false); items_at_value = c.requires.items_at_value }

pub kind-kind-requires : goal.kind-kind-requires
kind-kind-requires c = part_in _ c.args.image.accepted _ (part_in _ c.args.image.accepted _ c.requires.e_bound.0 refl (inl c.requires.e_bound.1) (omega arith) c.applied-f.ensures) c.kind.ensures (inl c.if-kind-ne-APPLY.false) (omega arith) c.applied.ensures

pub returns-then-kind-eq-REFERENCE : goal.returns-then-kind-eq-REFERENCE
returns-then-kind-eq-REFERENCE c = rule_call _ _ refl c.requires.e_bound.1 c.applied-f.ensures c.kind.ensures c.if-kind-ne-APPLY.false c.applied.ensures c.kind-kind.ensures (inl c.if-kind-eq-REFERENCE.true)

pub returns-then-kind-eq-SELECT : goal.returns-then-kind-eq-SELECT
returns-then-kind-eq-SELECT c = rule_call _ _ refl c.requires.e_bound.1 c.applied-f.ensures c.kind.ensures c.if-kind-ne-APPLY.false c.applied.ensures c.kind-kind.ensures (inr c.if-kind-eq-SELECT.true)

pub returns : goal.returns
returns c = rule_nameless _ _ refl c.requires.e_bound.1 c.applied-f.ensures c.kind.ensures c.if-kind-ne-APPLY.false c.applied.ensures c.kind-kind.ensures c.if-kind-eq-REFERENCE.false c.if-kind-eq-SELECT.false
