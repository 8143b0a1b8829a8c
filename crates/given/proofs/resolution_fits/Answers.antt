use native.Mathlib.Omega.{arith}
use Rattle.given.proofs.ResolutionLaws.{zero-entry, small-entry, other-kind, named-entry, is_tagged, past_names, of_reference}
use Rattle.given.proofs.resolution_fits.Goals as goal

pub returns-then-entry-eq0 : goal.returns-then-entry-eq0
returns-then-entry-eq0 c = zero-entry _ _ (λ i. (c.type_inv.table i).fits) _ c.two-entry.ensures c.if-entry-eq0.true

pub returns-then-entry-lt-DEFINITION : goal.returns-then-entry-lt-DEFINITION
returns-then-entry-lt-DEFINITION c = small-entry _ _ (λ i. (c.type_inv.table i).fits) _ c.two-entry.ensures c.if-entry-eq0.false c.if-entry-lt-DEFINITION.true

pub returns-then-kind-ne-REFERENCE : goal.returns-then-kind-ne-REFERENCE
returns-then-kind-ne-REFERENCE c = other-kind _ _ (λ i. (c.type_inv.table i).fits) _ c.two-entry.ensures c.if-entry-lt-DEFINITION.false c.kind.ensures c.if-kind-ne-REFERENCE.true

pub returns-then-entry-names : goal.returns-then-entry-names
returns-then-entry-names c = named-entry _ _ (λ i. (c.type_inv.table i).fits) _ c.two-entry.ensures c.if-entry-lt-DEFINITION.false c.kind.ensures c.if-kind-ne-REFERENCE.false c.requires.exprs_value.1 c.if-entry-names.true (omega (arith, c.requires.exprs_value.1, c.args.image.accepted.sized.names-few))

pub value_fits-requires : goal.value_fits-requires
value_fits-requires c = (c.requires.exprs_value.0, is_tagged _ (λ i. (c.type_inv.table i).fits) _ c.two-entry.ensures c.if-entry-lt-DEFINITION.false c.part-tag.ensures, past_names _ _ (λ i. (c.type_inv.table i).fits) _ c.two-entry.ensures c.if-entry-lt-DEFINITION.false c.requires.exprs_value.1 c.part-tag.ensures c.part-value.ensures c.if-entry-names.false)

pub returns : goal.returns
returns c = of_reference _ _ (λ i. (c.type_inv.table i).fits) _ c.two-entry.ensures c.part-tag.ensures c.kind.ensures c.if-kind-ne-REFERENCE.false c.part-value.ensures c.value_fits.ensures
