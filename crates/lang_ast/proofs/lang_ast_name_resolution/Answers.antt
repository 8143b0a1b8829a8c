use mathlib.Core.Path.{refl, ◌∙◌}
use Rattle.codes.specs.Refusals.{refusal_numbered}
use Rattle.image.proofs.CallLaws.{told_by_answer}
use Rattle.std.specs.Result.{result_unwrap_or}
use Rattle.resolve.specs.Outcome.{question, lent, run_rules, resolving, numbers_of}
use Rattle.lang_ast.proofs.ToldLaws.{one_told}
use Rattle.lang_ast.proofs.lang_ast_name_resolution.Goals as goal

pub returns : goal.returns
unfolding refusal_numbered
returns c =
    one_told resolving numbers_of (question _ _) (lent _ _) (λ r. result_unwrap_or r 0)
    (c.number_of-refusal.ensures ∙ told_by_answer resolving (question _ _) (lent _ _) _ (run_rules (question _ _) (lent _ _)) refl (λ n. refl) refl (refl, (refl, tt)) c.compute_name_resolution-answer.ensures) c.compute_name_resolution-answer.ensures
    c.unwrap_or.ensures (λ x. x) _ refl c.put_number.ensures
