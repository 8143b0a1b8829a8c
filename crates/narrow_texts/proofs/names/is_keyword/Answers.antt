use Rattle.std.specs.Prelude.{Some}
use Rattle.std.proofs.Common.{rules}
use mathlib.Core.Path.{ap, ◌∙◌}
use Rattle.narrow_texts.proofs.NameLaws.{keyword-builtin, keyword_else, keyword-unresolved}
use Rattle.narrow_texts.proofs.names.is_keyword.Goals as goal

pub returns-in-Some-Builtin : goal.returns-in-Some-Builtin
returns-in-Some-Builtin c = keyword-builtin _ _ _ _ c.get.ensures (c.in-Some-Builtin.is ∙ ap Some c.in-Some-Builtin.field-0-is)

pub returns-in-Some : goal.returns-in-Some
returns-in-Some c = keyword_else _ _ _ _ c.get.ensures _ c.in-Some.is (λ p h. search rules)

pub returns-in-None : goal.returns-in-None
returns-in-None c = keyword-unresolved _ _ _ _ c.get.ensures c.in-None.is
