use Rattle.std.proofs.Common.{rules}
use mathlib.Core.Path.{sym, ◌∙◌}
use borrow.Author.Tests.{ne_eqb}
use Rattle.semantics.specs.Base.{pick}
use Rattle.semantics.proofs.BaseLaws.{pick_later, pick-none}
use Rattle.narrow_texts.specs.Inside.Texts.{literal_primitive}
use Rattle.narrow_texts.proofs.names.literal_primitive.Goals as goal

pub returns-in-0 : goal.returns-in-0
unfolding literal_primitive pick
returns-in-0 c = rw c.in-0.is

pub returns-in-1 : goal.returns-in-1
unfolding literal_primitive pick
returns-in-1 c = rw c.in-1.is

pub returns-in-2 : goal.returns-in-2
unfolding literal_primitive pick
returns-in-2 c = rw c.in-2.is

pub returns-in-3 : goal.returns-in-3
unfolding literal_primitive pick
returns-in-3 c = rw c.in-3.is

pub returns-in_default : goal.returns-in_default
unfolding literal_primitive
returns-in_default c = sym
    (pick_later _ _ _ _ (ne_eqb _ 0 (λ h. search rules)) ∙ pick_later _ _ _ _
    (ne_eqb _ 1 (λ h. search rules)) ∙ pick_later _ _ _ _ (ne_eqb _ 2 (λ h. search rules)) ∙ pick_later _ _ _ _
    (ne_eqb _ 3 (λ h. search rules)) ∙ pick-none _ _)
