use Prim.Native.Nat.{◌+◌, ◌*◌}
use mathlib.Core.Path.{◌≡◌, sym, ◌∙◌}
use mathlib.Core.Bool.{true}
use borrow.Author.Tests.{not-true, not-false}
use Rattle.image_fields.specs.Image.{items_place}
use Rattle.image_tables.specs.Tables.{exprs_fit, all_stand}
use Rattle.image.proofs.CheckLaws.{refused_5, refused_6, refused_10, refused_11}
use mathlib.Core.Path.{ap}
use mathlib.Core.Bool.{not}
use Rattle.image.proofs.broken.Goals as goal
use Rattle.image.proofs.broken.Goals.{Else-not-all_stand, Else-not-exprs_fit}

pub exprs_fit-requires : goal.exprs_fit-requires
exprs_fit-requires c = record { sized = c.requires.sized; exprs_value = c.expr_count-exprs.ensures; texts_value = (c.text_count-texts.ensures, c.item_total.ensures) }

pub returns-then-not-exprs_fit : goal.returns-then-not-exprs_fit
returns-then-not-exprs_fit c = refused_5 c.requires (sym c.exprs_fit.ensures ∙ not-true _ (ap not c.if-not-exprs_fit.true))

-- what each test has shown, once it is passed
exprs-fit : (c : Else-not-exprs_fit) → exprs_fit c.args.image.now ≡ true
exprs-fit c = sym c.exprs_fit.ensures ∙ not-false _ (ap not c.if-not-exprs_fit.false)

place : (c : Else-not-exprs_fit) → 12 + 8 * c.expr_count-exprs.result + 4 * c.name_count-names.result + 4 * c.text_count-texts.result ≡ items_place c.args.image.now
place c = rw (c.expr_count-exprs.ensures, c.name_count-names.ensures, c.text_count-texts.ensures)

pub all_stand-requires : goal.all_stand-requires
all_stand-requires c = record { sized = (c.requires.sized, exprs-fit ((goal.at.all_stand-requires c).Else-not-exprs_fit)); items_at_value = (place ((goal.at.all_stand-requires c).Else-not-exprs_fit), c.expr_count-exprs.ensures, c.name_count-names.ensures) }

pub returns-then-not-all_stand : goal.returns-then-not-all_stand
returns-then-not-all_stand c = refused_6 c.requires (exprs-fit ((goal.at.returns-then-not-all_stand c).Else-not-exprs_fit)) (sym c.all_stand.ensures ∙ not-true _ (ap not c.if-not-all_stand.true))

all-stand : (c : Else-not-all_stand) → all_stand c.args.image.now ≡ true
all-stand c = sym c.all_stand.ensures ∙ not-false _ (ap not c.if-not-all_stand.false)

pub all_smaller-requires : goal.all_smaller-requires
all_smaller-requires c = record { sized = (c.requires.sized, exprs-fit ((goal.at.all_smaller-requires c).Else-not-exprs_fit)); items_at_value = (place ((goal.at.all_smaller-requires c).Else-not-exprs_fit), c.expr_count-exprs.ensures) }

pub returns-then-not-all_smaller : goal.returns-then-not-all_smaller
returns-then-not-all_smaller c = refused_10 c.requires (exprs-fit ((goal.at.returns-then-not-all_smaller c).Else-not-exprs_fit)) (all-stand ((goal.at.returns-then-not-all_smaller c).Else-not-all_stand))
    (sym c.all_smaller.ensures ∙ not-true _ (ap not c.if-not-all_smaller.true))

pub returns : goal.returns
returns c = refused_11 c.requires (exprs-fit ((goal.at.returns c).Else-not-exprs_fit)) (all-stand ((goal.at.returns c).Else-not-all_stand))
    (sym c.all_smaller.ensures ∙ not-false _ (ap not c.if-not-all_smaller.false))
