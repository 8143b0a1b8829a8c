use mathlib.Core.Path.{refl, ◌∙◌}
use Rattle.codes.specs.Refusals.{refusal_numbered}
use Rattle.image.proofs.CallLaws.{told_by_answer}
use Rattle.std.specs.Result.{result_unwrap_or}
use Rattle.resolve_need.specs.declared.TheConstants.{NOTHING}
use Rattle.resolve.specs.Outcome.{question}
use Rattle.resolve_need.specs.Outcome.{lent, run_rules, needing, numbers_of}
use Rattle.lang_ast.proofs.ToldLaws.{two_told}
use Rattle.lang_ast.proofs.lang_ast_resolution_need.Goals as goal

pub returns : goal.returns
unfolding refusal_numbered
returns c =
    two_told needing numbers_of (question _ _) lent (λ r. result_unwrap_or r NOTHING)
    (c.number_of-refusal.ensures ∙ told_by_answer needing (question _ _) lent _ (run_rules (question _ _)) refl (λ n. refl) refl (refl, tt) c.resolution_need-answer.ensures) c.resolution_need-answer.ensures
    c.unwrap_or-needed.ensures (λ x. x.steps) (λ x. x.scopes) _ _ refl c.put_number.ensures c.put_number-2.ensures
