use mathlib.Core.Path.{◌∙◌}
use Rattle.semantics.specs.Base.{◌>>=◌}
use Rattle.semantics.specs.Words.{compound_predicates}
use Rattle.narrow_texts.specs.Inside.Predicates.{predicate_for, saying, passing}
use Rattle.narrow_texts.specs.Inside.Rows.{rows_by, compound_rows}
use Rattle.narrow_texts.proofs.TableLaws.{found_paired}
use Rattle.narrow_texts.proofs.RowLaws.{compound_paired}
use Rattle.narrow_texts.proofs.words.fn.predicate_named.or_else.Goals as goal

pub returns : goal.returns
unfolding rows_by compound_rows compound_predicates passing saying predicate_for ◌>>=◌
returns c = c.answer_named.ensures ∙ found_paired _ _ ∙ compound_paired _
