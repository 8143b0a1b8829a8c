use mathlib.Core.Path.{◌≡◌, refl, ◌∙◌}
use native.Mathlib.Omega.{arith}
use Rattle.image_fields.specs.Image.{text_first_of, text_length_of}
use Rattle.image_fields.proofs.FieldLaws.{taken}
use Rattle.image_tables.proofs.RunLaws.{standing_start, standing_more, standing_fails, standing_done, starts_there_lem, starts_elsewhere, field_there, texts_are}
use Rattle.image_tables.proofs.texts_fit.Goals as goal
use Rattle.image_tables.proofs.texts_fit.Goals.{After-part-first, After-part-next}

pub loop-x-init : goal.loop-x-init
loop-x-init c = standing_start _ _ _ _

first-is : (c : After-part-first) → c.part-first.result ≡ text_first_of c.args.image.now c.loop-x.x
first-is c = field_there _ _ 0 20 (taken _ (λ i. (c.type_inv.image i).fits) _ 4 0 20 12 refl c.four-text.ensures c.part-first.ensures) c.requires.texts_at_value

pub returns-then-first-next : goal.returns-then-first-next
returns-then-first-next c = standing_fails _ _ _ _ _ c.loop-x-test.true (starts_elsewhere (text_first_of c.args.image.now) (text_length_of c.args.image.now) _ _ _ (first-is ((goal.at.returns-then-first-next c).After-part-first)) c.loop-x.invariant.sum c.if-first-next.true) ∙ texts_are _ c.requires.texts_value.0 c.requires.texts_value.1

length-is : (c : After-part-next) → c.part-next.result ≡ text_length_of c.args.image.now c.loop-x.x
length-is c = field_there _ _ 20 12 (taken _ (λ i. (c.type_inv.image i).fits) _ 4 20 12 0 refl c.four-text.ensures c.part-next.ensures) c.requires.texts_at_value

pub overflow_add-next : goal.overflow_add-next
overflow_add-next c = omega (arith, c.loop-x.invariant.small)

pub loop-x-preserved : goal.loop-x-preserved
loop-x-preserved c = standing_more c.loop-x.invariant c.loop-x-test.true
    (starts_there_lem (text_first_of c.args.image.now) (text_length_of c.args.image.now) _ _ _ (first-is ((goal.at.loop-x-preserved c).After-part-first)) c.loop-x.invariant.sum c.if-first-next.false)
    (length-is ((goal.at.loop-x-preserved c).After-part-next)) (omega arith)

pub returns : goal.returns
returns c = standing_done _ c.loop-x.invariant c.loop-x-test.false ∙ texts_are _ c.requires.texts_value.0 c.requires.texts_value.1
