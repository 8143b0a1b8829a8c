use mathlib.Core.Path.{◌≡◌, refl, sym, ◌∙◌}
use borrow.Author.Tests.{not-true, not-false}
use Rattle.image_rules.specs.Rules.{fits, name_presence, expr_presence}
use Rattle.image_rules.specs.Inside.Machine.{item_of_word}
use Rattle.image_rules.proofs.RuleLaws.{marked}
use Rattle.image_rules.proofs.ItemLaws.{tested}
use Rattle.image_rules.proofs.StandLaws.{role_unknown, name_unfit, number_there}
use mathlib.Core.Path.{ap}
use mathlib.Core.Bool.{not}
use Rattle.image_rules.proofs.parts.item_stands.Goals as goal
use Rattle.image_rules.proofs.parts.item_stands.Goals.{After-fits, After-fits-2}

pub returns-then-role-gt-LAST : goal.returns-then-role-gt-LAST
returns-then-role-gt-LAST c = role_unknown _ _ (rw (← c.part-role.ensures) c.if-role-gt-LAST.true)

-- what `fits` says of the item's name
named : (c : After-fits) → c.fits.result ≡ fits (name_presence (item_of_word c.args.item).role)
    c.args.names (item_of_word c.args.item).name
unfolding marked
named c =
    rw (← c.part-role.ensures, ← c.part-name.ensures)
    (tested name_presence _ _ _ refl c.if-role-gt-LAST.false c.fits.ensures c.part.ensures refl)

pub returns-then-not-fits : goal.returns-then-not-fits
returns-then-not-fits c = name_unfit _ _ (sym (not-true _ (ap not c.if-not-fits.true)) ∙ named ((goal.at.returns-then-not-fits c).After-fits))

-- and of its expression
numbered : (c : After-fits-2) → c.fits-2.result ≡ fits (expr_presence (item_of_word c.args.item).role) 16383
    (item_of_word c.args.item).expression
unfolding marked
numbered c =
    rw (← c.part-role.ensures, ← c.part-expression.ensures)
    (tested expr_presence _ _ _ refl c.if-role-gt-LAST.false c.fits-2.ensures c.part-2.ensures refl)

pub returns : goal.returns
returns c = number_there _ _ (rw (← c.part-role.ensures) c.if-role-gt-LAST.false)
    (sym (not-false _ (ap not c.if-not-fits.false)) ∙ named ((goal.at.returns c).After-fits)) (numbered ((goal.at.returns c).After-fits-2))
