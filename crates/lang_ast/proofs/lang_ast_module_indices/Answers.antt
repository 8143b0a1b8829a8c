use mathlib.Core.Path.{refl, ◌∙◌}
use Rattle.codes.specs.Refusals.{refusal_numbered}
use Rattle.image.proofs.CallLaws.{told_by_answer}
use mathlib.Core.List.{[]}
use Rattle.index.specs.Outcome.{own_rules, indexing}
use Rattle.lang_ast.proofs.ToldLaws.{none_told}
use Rattle.lang_ast.proofs.lang_ast_module_indices.Goals as goal

pub returns : goal.returns
unfolding refusal_numbered
returns c =
    none_told indexing (λ s. []) _ _ (λ r. r)
    (c.number_of.ensures ∙ told_by_answer indexing _ _ _ (own_rules _ _) refl (λ n. refl) refl (refl, tt) c.compute_module_indices.ensures) c.compute_module_indices.ensures
    refl refl
