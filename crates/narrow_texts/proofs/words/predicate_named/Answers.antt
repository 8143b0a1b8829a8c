use Rattle.std.proofs.Common.{rules}
use mathlib.Core.Path.{◌∙◌}
use Rattle.semantics.specs.Base.{◌>>=◌}
use Rattle.semantics.specs.Words.{type_predicates}
use Rattle.narrow_texts.specs.Inside.Predicates.{predicate_for, saying, passing}
use Rattle.narrow_texts.specs.Inside.Rows.{rows_by, type_rows}
use Rattle.narrow_texts.proofs.TableLaws.{found_paired}
use Rattle.narrow_texts.proofs.RowLaws.{type_paired, in_either}
use Rattle.narrow_texts.proofs.words.predicate_named.Goals as goal

pub returns : goal.returns
unfolding rows_by type_rows type_predicates passing saying predicate_for ◌>>=◌
returns c = in_either _ _ (c.answer_named.ensures ∙ found_paired _ _ ∙ type_paired _) c.or_else.ensures (λ p. search rules)
