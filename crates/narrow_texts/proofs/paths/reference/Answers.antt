use Rattle.narrow_texts.proofs.PathLaws.{reference-text, no-reference, is-reference, text-found}
use Rattle.narrow_texts.proofs.NumberLaws.{nothing-found}
use mathlib.Core.Path.{sym, ◌∙◌}
use Rattle.narrow_texts.proofs.paths.reference.Goals as goal

pub returns-then-kind-ne-REFERENCE : goal.returns-then-kind-ne-REFERENCE
returns-then-kind-ne-REFERENCE c = nothing-found (no-reference _ _ c.kind.ensures c.if-kind-ne-REFERENCE.true)

pub returns : goal.returns
returns c = text-found _ _ c.expr_text.ensures (is-reference _ _ c.kind.ensures c.if-kind-ne-REFERENCE.false)
    (reference-text _ c.args.image.accepted _ c.requires (sym c.kind.ensures ∙ c.if-kind-ne-REFERENCE.false))
