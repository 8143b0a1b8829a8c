use mathlib.Core.Path.{refl, ◌∙◌}
use Rattle.codes.specs.Refusals.{refusal_numbered}
use Rattle.image.proofs.CallLaws.{told_by_answer}
use Rattle.std.specs.Result.{result_unwrap_or}
use Rattle.narrow.specs.declared.TheConstants.{NOTHING}
use Rattle.narrow.specs.Outcome.{question, lent, fit_rules, analysis, numbers_of}
use Rattle.lang_ast.proofs.ToldLaws.{three_told}
use Rattle.lang_ast.proofs.lang_ast_analyze_condition.Goals as goal

pub returns : goal.returns
unfolding refusal_numbered
returns c =
    three_told analysis numbers_of (question _ _ _ _ _) (lent _ _) (λ r. result_unwrap_or r NOTHING)
    (c.number_of-refusal.ensures ∙ told_by_answer analysis (question _ _ _ _ _) (lent _ _) _ (fit_rules (question _ _ _ _ _) (lent _ _)) refl (λ n. refl) refl (refl, (refl, (refl, tt))) c.analyze_condition-answer.ensures) c.analyze_condition-answer.ensures
    c.unwrap_or-analyzed.ensures (λ x. x.steps) (λ x. x.thens) (λ x. x.elses) _ _ _ refl c.put_number.ensures c.put_number-2.ensures c.put_number-3.ensures
