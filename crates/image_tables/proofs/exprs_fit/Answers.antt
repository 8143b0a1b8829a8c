use mathlib.Core.Path.{◌≡◌, refl, ◌∙◌}
use native.Mathlib.Omega.{arith}
use borrow.Author.Tests.{not-true, not-false}
use Rattle.image_fields.specs.Image.{text_count, kind_of, detail_of, expr_text_of, first_of, count_of}
use Rattle.image_rules.specs.Rules.{expr_fits}
use Rattle.image_fields.proofs.FieldLaws.{Bytes, taken}
use Rattle.image_tables.proofs.RunLaws.{standing_start, standing_more, standing_fails, standing_done, starts_there_lem, starts_elsewhere, exprs_are}
use Rattle.image_tables.proofs.EntryLaws.{form_kind_lem, form_detail_lem, own-fits, own_breaks, place_breaks, expr-stands}
use mathlib.Core.Path.{ap}
use mathlib.Core.Bool.{not}
use Rattle.image_tables.proofs.exprs_fit.Goals as goal
use Rattle.image_tables.proofs.exprs_fit.Goals.{After-expr_fits}

pub loop-e-init : goal.loop-e-init
loop-e-init c = standing_start _ _ _ _

own : (c : After-expr_fits) → expr_fits (text_count c.args.image.now) (kind_of c.args.image.now c.loop-e.e) (detail_of c.args.image.now c.loop-e.e) (expr_text_of c.args.image.now c.loop-e.e) ≡ c.expr_fits.result
own c =
    let bytes : Bytes c.args.image.now = λ i. (c.type_inv.image i).fits in
    own-fits _ _ c.expr_fits.ensures c.requires.texts_value.0 (form_kind_lem _ bytes _ c.eight-expr.ensures c.part-form.ensures) (form_detail_lem _ bytes _ c.eight-expr.ensures c.part-form.ensures) (taken _ bytes _ 8 10 14 40 refl c.eight-expr.ensures c.part.ensures)

pub returns-then-not-expr_fits : goal.returns-then-not-expr_fits
returns-then-not-expr_fits c = standing_fails _ _ _ _ _ c.loop-e-test.true (own_breaks _ _ (own ((goal.at.returns-then-not-expr_fits c).After-expr_fits) ∙ not-true _ (ap not c.if-not-expr_fits.true))) ∙ exprs_are _ c.requires.exprs_value c.requires.texts_value.1

pub returns-then-part-next : goal.returns-then-part-next
returns-then-part-next c = standing_fails _ _ _ _ _ c.loop-e-test.true (place_breaks _ _ (starts_elsewhere (first_of c.args.image.now) (count_of c.args.image.now) _ _ _ (taken _ (λ i. (c.type_inv.image i).fits) _ 8 24 20 20 refl c.eight-expr.ensures c.part-in-loop-e.ensures) c.loop-e.invariant.sum c.if-part-next.true)) ∙ exprs_are _ c.requires.exprs_value c.requires.texts_value.1

pub overflow_add-next : goal.overflow_add-next
overflow_add-next c = omega (arith, c.loop-e.invariant.small)

pub loop-e-preserved : goal.loop-e-preserved
loop-e-preserved c = let bytes : Bytes c.args.image.now = λ i. (c.type_inv.image i).fits in
    standing_more c.loop-e.invariant c.loop-e-test.true
    (expr-stands _ _ (own ((goal.at.loop-e-preserved c).After-expr_fits) ∙ not-false _ (ap not c.if-not-expr_fits.false)) (starts_there_lem (first_of c.args.image.now) (count_of c.args.image.now) _ _ _ (taken _ bytes _ 8 24 20 20 refl c.eight-expr.ensures c.part-in-loop-e.ensures) c.loop-e.invariant.sum c.if-part-next.false))
    (taken _ bytes _ 8 44 20 0 refl c.eight-expr.ensures c.part-next.ensures) (omega arith)

pub returns : goal.returns
returns c = standing_done _ c.loop-e.invariant c.loop-e-test.false ∙ exprs_are _ c.requires.exprs_value c.requires.texts_value.1
