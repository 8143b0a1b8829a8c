use mathlib.Core.Path.{refl}
use Rattle.image_fields.proofs.FieldLaws.{taken}
use Rattle.image_tables.proofs.EntryLaws.{kind_above, text_above, name-stands}
use Rattle.image_tables.proofs.name_fits.Goals as goal

pub returns-then-kind-gt-LAST : goal.returns-then-kind-gt-LAST
returns-then-kind-gt-LAST c = kind_above _ _ _ (taken _ (λ i. (c.type_inv.image i).fits) _ 4 14 3 15 refl c.four-name.ensures c.part-kind.ensures) c.if-kind-gt-LAST.true

pub returns-then-text-texts : goal.returns-then-text-texts
returns-then-text-texts c = text_above _ _ _ (taken _ (λ i. (c.type_inv.image i).fits) _ 4 0 14 18 refl c.four-name.ensures c.part-text.ensures) c.if-text-texts.true

pub returns : goal.returns
returns c = name-stands _ _ _ (taken _ (λ i. (c.type_inv.image i).fits) _ 4 14 3 15 refl c.four-name.ensures c.part-kind.ensures) c.if-kind-gt-LAST.false (taken _ (λ i. (c.type_inv.image i).fits) _ 4 0 14 18 refl c.four-name.ensures c.part-text.ensures) c.if-text-texts.false (taken _ (λ i. (c.type_inv.image i).fits) _ 4 17 15 0 refl c.four-name.ensures c.part.ensures)
