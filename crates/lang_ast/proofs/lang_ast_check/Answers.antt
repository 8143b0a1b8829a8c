use mathlib.Core.Path.{ap, ◌∙◌}
use Rattle.lent.specs.Calls.{refusal_told}
use Rattle.image.proofs.CallLaws.{verdict-told}
use Rattle.lang_ast.proofs.lang_ast_check.Goals as goal

pub returns : goal.returns
returns c = c.number_of.ensures ∙ ap refusal_told c.check.ensures ∙ verdict-told _
