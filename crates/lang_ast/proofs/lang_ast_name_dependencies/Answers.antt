use mathlib.Core.Path.{refl, ap, ◌∙◌}
use Rattle.codes.specs.Refusals.{refusal_numbered}
use Rattle.image.proofs.CallLaws.{told_by_answer}
use Prim.Native.Nat.{◌%◌, ◌^◌}
use Rattle.std.specs.Result.{result_unwrap_or}
use Rattle.lent.specs.Calls.{afterwards}
use Rattle.walk.specs.declared.TheConstants.{NOTHING}
use Rattle.walk.specs.Outcome.{question, lent, fit_rules, walking, numbers_of}
use Rattle.lang_ast.proofs.ToldLaws.{three_told}
use Rattle.lang_ast.proofs.lang_ast_name_dependencies.Goals as goal

pub returns : goal.returns
unfolding refusal_numbered
returns c =
    three_told walking numbers_of (question _ _ _ _) (lent _ _ _ _) (λ r. result_unwrap_or r NOTHING)
    (c.number_of-refusal.ensures ∙ told_by_answer walking (question _ _ _ _) (lent _ _ _ _) _ (fit_rules (question _ _ _ _) (lent _ _ _ _)) refl (λ n. refl) refl (refl, (refl, (refl, tt))) c.name_dependencies-answer.ensures) c.name_dependencies-answer.ensures
    c.unwrap_or-walked.ensures (λ x. x.steps) (λ x. x.edges) (λ x. x.narrowings % 2 ^ 32) _ _ _ refl c.put_number.ensures c.put_number-2.ensures (c.put_number-3.ensures ∙ ap (λ x. afterwards c.number_of-refusal.result x 0 c.args.narrowing_count.now) c.low.ensures)
