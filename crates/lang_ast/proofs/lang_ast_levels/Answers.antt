use mathlib.Core.Path.{refl, ◌∙◌}
use Rattle.codes.specs.Refusals.{refusal_numbered}
use Rattle.image.proofs.CallLaws.{told_by_answer}
use Rattle.std.specs.Result.{result_unwrap_or}
use Rattle.levels.specs.Outcome.{lent, own_rules, levelling, numbers_of}
use Rattle.lang_ast.proofs.ToldLaws.{one_told}
use Rattle.lang_ast.proofs.lang_ast_levels.Goals as goal

pub returns : goal.returns
unfolding refusal_numbered
returns c =
    one_told levelling numbers_of _ lent (λ r. result_unwrap_or r 0)
    (c.number_of-refusal.ensures ∙ told_by_answer levelling _ lent _ own_rules refl (λ n. refl) refl tt c.compute_levels-answer.ensures) c.compute_levels-answer.ensures
    c.unwrap_or.ensures (λ x. x) _ refl c.put_number.ensures
