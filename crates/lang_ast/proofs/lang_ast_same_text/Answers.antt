use mathlib.Core.Path.{sym, ap, ◌∙◌}
use mathlib.Core.Bool.{cond}
use Rattle.lang_ast.proofs.lang_ast_same_text.Goals as goal

pub returns-then-compared : goal.returns-then-compared
returns-then-compared c = (ap (λ t. cond t 1 0) (sym c.if-compared.true ∙ ap (λ r. r.same) c.same_text-compared.ensures), ap (λ r. r.looked) c.same_text-compared.ensures)

pub returns-else-compared : goal.returns-else-compared
returns-else-compared c = (ap (λ t. cond t 1 0) (sym c.if-compared.false ∙ ap (λ r. r.same) c.same_text-compared.ensures), ap (λ r. r.looked) c.same_text-compared.ensures)
