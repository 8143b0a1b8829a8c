use Rattle.narrow_texts.proofs.PathLaws.{string-text, other-kind, other-detail, is-string, text-found}
use Rattle.narrow_texts.proofs.NumberLaws.{nothing-found}
use mathlib.Core.Path.{sym, ◌∙◌}
use Rattle.narrow_texts.proofs.paths.string.Goals as goal

pub returns-then-kind-ne-LITERAL : goal.returns-then-kind-ne-LITERAL
returns-then-kind-ne-LITERAL c = nothing-found (other-kind _ _ c.kind.ensures c.if-kind-ne-LITERAL.true)

pub returns-then-detail-ne-STRING : goal.returns-then-detail-ne-STRING
returns-then-detail-ne-STRING c = nothing-found (other-detail _ _ c.kind.ensures c.if-kind-ne-LITERAL.false c.detail.ensures c.if-detail-ne-STRING.true)

pub returns : goal.returns
returns c = text-found _ _ c.expr_text.ensures
    (is-string _ _ c.kind.ensures c.if-kind-ne-LITERAL.false c.detail.ensures c.if-detail-ne-STRING.false)
    (string-text _ c.args.image.accepted _ c.requires (sym c.kind.ensures ∙ c.if-kind-ne-LITERAL.false) (sym c.detail.ensures ∙ c.if-detail-ne-STRING.false))
