use mathlib.Core.Path.{sym, ◌∙◌}
use Rattle.std.proofs.Common.{rules}
use mathlib.Core.List.{[]}
use borrow.Author.Tests.{not-true, not-false}
use Rattle.narrow_texts.proofs.PathLaws.{reference-text}
use Rattle.narrow_texts.proofs.NameLaws.{entry-inside, of_literal, of_other, other_word, no_word, is_word}
use mathlib.Core.Path.{ap}
use mathlib.Core.Bool.{not}
use Rattle.narrow_texts.proofs.names.expr_literal_primitive.Goals as goal

pub returns-in-3 : goal.returns-in-3
returns-in-3 c = of_literal _ _ [] _ c.kind.ensures c.in-3.is c.detail.ensures c.literal_primitive.ensures

pub returns-in_default : goal.returns-in_default
returns-in_default c = of_other _ _ [] _ c.kind.ensures (λ h. search rules) (λ h. search rules)

pub text-requires : goal.text-requires
text-requires c = rw c.expr_text.ensures (reference-text _ c.args.image.accepted _ c.requires.0 (sym c.kind.ensures ∙ c.in-10.is))

pub returns-in_err-place-in-10 : goal.returns-in_err-place-in-10
returns-in_err-place-in-10 c = rw c.from_residual.ensures (other_word _ _ [] _ c.kind.ensures c.requires.1 c.requires.0 c.in-10.is _ c.expr_text.ensures
    c.text.ensures c.keyword_place.ensures c.in_err-place-in-10.was)

pub is_keyword-requires : goal.is_keyword-requires
is_keyword-requires c = entry-inside _ _ c.requires.1 _ c.requires.0

pub returns-then-not-is_keyword : goal.returns-then-not-is_keyword
returns-then-not-is_keyword c = no_word _ _ [] _ c.kind.ensures c.requires.1 c.requires.0 c.in-10.is _ c.expr_text.ensures
    c.text.ensures c.keyword_place.ensures c.in_ok-place-in-10.was c.is_keyword.ensures (not-true _ (ap not c.if-not-is_keyword.true))

pub returns-else-not-is_keyword : goal.returns-else-not-is_keyword
returns-else-not-is_keyword c = is_word _ _ [] _ c.kind.ensures c.requires.1 c.requires.0 c.in-10.is _ c.expr_text.ensures
    c.text.ensures c.keyword_place.ensures c.in_ok-place-in-10.was c.is_keyword.ensures (not-false _ (ap not c.if-not-is_keyword.false))
    c.keyword_primitive.ensures
