use Rattle.std.proofs.Common.{rules}
use Rattle.semantics.specs.Narrow.{callee_name}
use Rattle.narrow_leaf.proofs.CalleeLaws.{name-called, name-selected, no_name_lem}
use Rattle.narrow_texts.proofs.NumberLaws.{nothing_spelt, spelt_as}
use Rattle.narrow_texts.proofs.ChainLaws.{chain-any}
use mathlib.Core.Path.{◌∙◌}
use Rattle.narrow_leaf.proofs.callees.predicate_name.Goals as goal

pub returns-in-10 : goal.returns-in-10
unfolding callee_name
returns-in-10 c = spelt_as (name-called _ _ _ c.kind.ensures c.in-10.is) c.builtin_callee_name.ensures

pub returns-in-11 : goal.returns-in-11
returns-in-11 c = spelt_as
    (name-selected _ _ _ c.kind.ensures c.in-11.is ∙ chain-any _ _ c.args.bindings.now _) c.chain_key.ensures

pub returns-in_default : goal.returns-in_default
returns-in_default c = nothing_spelt (no_name_lem _ _ _ c.kind.ensures (λ h. search rules) (λ h. search rules))
