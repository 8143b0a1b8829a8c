use Rattle.std.proofs.Common.{rules}
use mathlib.Core.Path.{sym, ◌∙◌}
use Rattle.narrow_texts.proofs.PathLaws.{reference-text}
use Rattle.narrow_texts.proofs.ChainLaws.{leaf-key, leaf-reference, no-leaf}
use Rattle.narrow_texts.proofs.chains.leaf_name.Goals as goal

pub returns-in-11 : goal.returns-in-11
returns-in-11 c = leaf-key _ _ _ c.kind.ensures c.in-11.is c.chain_key.ensures

pub returns-in-10 : goal.returns-in-10
returns-in-10 c = leaf-reference _ _ _ c.kind.ensures c.in-10.is c.expr_text.ensures
    (rw c.expr_text.ensures (reference-text _ c.args.image.accepted _ c.requires.0 (sym c.kind.ensures ∙ c.in-10.is)))

pub returns-in_default : goal.returns-in_default
returns-in_default c = no-leaf _ _ _ c.kind.ensures (λ h. search rules) (λ h. search rules)
