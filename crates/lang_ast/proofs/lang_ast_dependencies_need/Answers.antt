use mathlib.Core.Path.{refl, ◌∙◌}
use Rattle.codes.specs.Refusals.{refusal_numbered}
use Rattle.image.proofs.CallLaws.{told_by_answer}
use Rattle.std.specs.Result.{result_unwrap_or}
use Rattle.walk_need.specs.declared.TheConstants.{NOTHING}
use Rattle.walk.specs.Outcome.{question}
use Rattle.walk_need.specs.Outcome.{lent, fit_rules, needing, numbers_of}
use Rattle.lang_ast.proofs.ToldLaws.{four_told}
use Rattle.lang_ast.proofs.lang_ast_dependencies_need.Goals as goal

pub returns : goal.returns
unfolding refusal_numbered
returns c =
    four_told needing numbers_of (question _ _ _ _) lent (λ r. result_unwrap_or r NOTHING)
    (c.number_of-refusal.ensures ∙ told_by_answer needing (question _ _ _ _) lent _ (fit_rules (question _ _ _ _)) refl (λ n. refl) refl (refl, (refl, tt)) c.dependencies_need-answer.ensures) c.dependencies_need-answer.ensures
    c.unwrap_or-needed.ensures (λ x. x.steps) (λ x. x.edges) (λ x. x.narrowings) (λ x. x.most) _ _ _ _ refl c.put_number.ensures c.put_number-2.ensures c.put_number-3.ensures c.put_number-4.ensures
