use Prim.Native.Nat.{◌<◌, ◌≤◌}
use mathlib.Core.Path.{◌≡◌, refl, sym, ◌∙◌}
use mathlib.Core.Bool.{true}
use native.Mathlib.Omega.{arith}
use lib.ListN.{length}
use borrow.Author.Tests.{not-true, not-false}
use Rattle.image_fields.specs.Image.{expr_count, decode}
use Rattle.image_rules.specs.Rules.{fits, name_presence, expr_presence}
use Rattle.image_rules.specs.Inside.Machine.{item_of_word}
use Rattle.image_fields.proofs.ImageLaws.{tree-names, tree-kind}
use Rattle.image_rules.proofs.RuleLaws.{marked, Plain, plain_at}
use Rattle.image_rules.proofs.ItemLaws.{expr-field, tested, below-owner, no-role, name_breaks, number_breaks, no_inherit, inherit, plain-named, plain_fits_lem, static_fits}
use mathlib.Core.Path.{ap}
use mathlib.Core.Bool.{not}
use Rattle.image_rules.proofs.item_fits.Goals as goal
use Rattle.image_rules.proofs.item_fits.Goals.{After-fits, After-fits-2, Else-not-fits, Else-not-fits-2, Else-role-gt-LAST, Else-role-ne-INHERIT, Then-part-eq1}

-- a Static has a name and an expression
pub returns-then-named_fits : goal.returns-then-named_fits
returns-then-named_fits c = rw c.part-expression.ensures
    (static_fits _ _ _ (rw (tree-names c.args.image.now, ← c.requires.names_value) (sym c.named_fits.ensures ∙ c.if-named_fits.true)))

pub returns-then-role-gt-LAST : goal.returns-then-role-gt-LAST
returns-then-role-gt-LAST c = no-role _ _ _ (rw (← c.part-role.ensures) c.if-role-gt-LAST.true)

role-small : (c : Else-role-gt-LAST) → (item_of_word c.args.item).role ≤ 10
role-small c = rw (← c.part-role.ensures) c.if-role-gt-LAST.false

-- a role without a name and with an expression
plain : (c : Then-part-eq1) → Plain (item_of_word c.args.item).role
unfolding marked
plain c = rw (← c.part-role.ensures) (plain_at _ refl _ c.if-role-gt-LAST.false c.part.ensures c.if-part-eq1.true)

pub returns-then-name-eq-NONE : goal.returns-then-name-eq-NONE
returns-then-name-eq-NONE c = rw c.part-expression.ensures (plain_fits_lem _ _ _ (role-small ((goal.at.returns-then-name-eq-NONE c).Else-role-gt-LAST)) (plain ((goal.at.returns-then-name-eq-NONE c).Then-part-eq1)) (sym c.part-name.ensures ∙ c.if-name-eq-NONE.true))

pub returns-then-part-eq1 : goal.returns-then-part-eq1
returns-then-part-eq1 c = plain-named _ _ _ (role-small ((goal.at.returns-then-part-eq1 c).Else-role-gt-LAST)) (plain ((goal.at.returns-then-part-eq1 c).Then-part-eq1)) (λ e. c.if-name-eq-NONE.false (c.part-name.ensures ∙ e))

-- what `fits` says of the item's name, and of its expression
named : (c : After-fits) → c.fits.result ≡ fits (name_presence (item_of_word c.args.item).role) (length (decode c.args.image.now).names) (item_of_word c.args.item).name
unfolding marked
named c =
    rw (← c.part-role.ensures, ← c.part-name.ensures)
    (tested name_presence _ _ _ refl c.if-role-gt-LAST.false c.fits.ensures c.part-2.ensures (c.requires.names_value ∙ sym (tree-names _)))

pub returns-then-not-fits : goal.returns-then-not-fits
returns-then-not-fits c = name_breaks _ _ _ (sym (not-true _ (ap not c.if-not-fits.true)) ∙ named ((goal.at.returns-then-not-fits c).After-fits))

-- what `fits` says of the item's name, and of its expression
named_else_not_fits : (c : Else-not-fits) → c.fits.result ≡ fits (name_presence (item_of_word c.args.item).role) (length (decode c.args.image.now).names) (item_of_word c.args.item).name
unfolding marked
named_else_not_fits c =
    rw (← c.part-role.ensures, ← c.part-name.ensures)
    (tested name_presence _ _ _ refl c.if-role-gt-LAST.false c.fits.ensures c.part-2.ensures (c.requires.names_value ∙ sym (tree-names _)))

name-fits : (c : Else-not-fits) → true ≡ fits (name_presence (item_of_word c.args.item).role) (length (decode c.args.image.now).names) (item_of_word c.args.item).name
name-fits c = sym (not-false _ (ap not c.if-not-fits.false)) ∙ named_else_not_fits c

numbered : (c : After-fits-2) → c.fits-2.result ≡ fits (expr_presence (item_of_word c.args.item).role) c.args.owner (item_of_word c.args.item).expression
unfolding marked
numbered c =
    rw (← c.part-role.ensures, ← c.part-expression.ensures) (tested expr_presence _ _ _ refl c.if-role-gt-LAST.false c.fits-2.ensures c.part-3.ensures refl)

pub returns-then-not-fits-2 : goal.returns-then-not-fits-2
returns-then-not-fits-2 c = number_breaks _ _ _ (sym (not-true _ (ap not c.if-not-fits-2.true)) ∙ numbered ((goal.at.returns-then-not-fits-2 c).After-fits-2))

numbered_else_not_fits_2 : (c : Else-not-fits-2) → c.fits-2.result ≡ fits (expr_presence (item_of_word c.args.item).role) c.args.owner (item_of_word c.args.item).expression
unfolding marked
numbered_else_not_fits_2 c =
    rw (← c.part-role.ensures, ← c.part-expression.ensures) (tested expr_presence _ _ _ refl c.if-role-gt-LAST.false c.fits-2.ensures c.part-3.ensures refl)

number_fits : (c : Else-not-fits-2) → true ≡ fits (expr_presence (item_of_word c.args.item).role) c.args.owner (item_of_word c.args.item).expression
number_fits c = sym (not-false _ (ap not c.if-not-fits-2.false)) ∙ numbered_else_not_fits_2 c

pub returns-then-role-ne-INHERIT : goal.returns-then-role-ne-INHERIT
returns-then-role-ne-INHERIT c = no_inherit _ _ _ (role-small ((goal.at.returns-then-role-ne-INHERIT c).Else-role-gt-LAST)) (name-fits ((goal.at.returns-then-role-ne-INHERIT c).Else-not-fits)) (number_fits ((goal.at.returns-then-role-ne-INHERIT c).Else-not-fits-2)) (λ e. c.if-role-ne-INHERIT.true (c.part-role.ensures ∙ e))

numbered_else_role_ne_inherit : (c : Else-role-ne-INHERIT) → c.fits-2.result ≡ fits (expr_presence (item_of_word c.args.item).role) c.args.owner (item_of_word c.args.item).expression
unfolding marked
numbered_else_role_ne_inherit c =
    rw (← c.part-role.ensures, ← c.part-expression.ensures) (tested expr_presence _ _ _ refl c.if-role-gt-LAST.false c.fits-2.ensures c.part-3.ensures refl)

number_fits_else_role_ne_inherit : (c : Else-role-ne-INHERIT) → true ≡ fits (expr_presence (item_of_word c.args.item).role) c.args.owner (item_of_word c.args.item).expression
number_fits_else_role_ne_inherit c = sym (not-false _ (ap not c.if-not-fits-2.false)) ∙ numbered_else_role_ne_inherit c

-- an Inherit's expression stands before its owner
below : (c : Else-role-ne-INHERIT) → c.part-expression.result < c.args.owner
below c = rw c.part-expression.ensures (below-owner (number_fits_else_role_ne_inherit c) (sym c.part-role.ensures ∙ c.if-role-ne-INHERIT.false))

pub field-requires : goal.field-requires
field-requires c = let h = below ((goal.at.field-requires c).Else-role-ne-INHERIT) in expr-field 0 5 c.requires.sized.0 (omega (arith, c.requires.sized.1)) (omega arith) (omega arith)

pub returns : goal.returns
returns c = let h = below ((goal.at.returns c).Else-role-ne-INHERIT) in
    let l : c.part-expression.result < expr_count c.args.image.now = omega (arith, c.requires.sized.1) in
    inherit _ _ _ (role-small ((goal.at.returns c).Else-role-gt-LAST)) (name-fits ((goal.at.returns c).Else-not-fits)) (number_fits ((goal.at.returns c).Else-not-fits-2)) (sym c.part-role.ensures ∙ c.if-role-ne-INHERIT.false) {k = c.field.result}
    (rw (← c.part-expression.ensures, tree-kind c.args.image.now c.part-expression.result l) c.field.ensures)
