use Rattle.std.proofs.Common.{rules}
use mathlib.Core.Logic.{inl, inr}
use mathlib.Core.Path.{sym, ◌∙◌}
use borrow.Author.Tests.{ne_eqb}
use Rattle.semantics.specs.Base.{pick}
use Rattle.semantics.proofs.BaseLaws.{pick_later, pick-none}
use Rattle.narrow_texts.specs.Inside.Texts.{keyword_primitive}
use Rattle.narrow_texts.proofs.names.keyword_primitive.Goals as goal

pub returns-in-15 : goal.returns-in-15
unfolding keyword_primitive pick
returns-in-15 c = rw c.in-15.is

pub returns-in-21 : goal.returns-in-21
unfolding keyword_primitive pick
returns-in-21 c = elim c.in-21.is [
  | inl h ↦ rw h
  | inr h ↦ rw h
]

pub returns-in_default : goal.returns-in_default
unfolding keyword_primitive
returns-in_default c = sym
    (pick_later _ _ _ _ (ne_eqb _ 15 (λ h. search rules)) ∙ pick_later _ _ _ _ (ne_eqb _ 21 (λ h. search rules))
    ∙ pick_later _ _ _ _ (ne_eqb _ 5 (λ h. search rules)) ∙ pick-none _ _)
