use mathlib.Core.Path.{◌∙◌}
use Rattle.semantics.specs.Words.{conditional_fn_names}
use Rattle.narrow_texts.specs.Inside.Rows.{rows_by, conditional_of, conditional_rows}
use Rattle.narrow_texts.proofs.TableLaws.{found_paired}
use Rattle.narrow_texts.proofs.RowLaws.{conditional_paired}
use Rattle.narrow_texts.proofs.words.conditional_fn.Goals as goal

pub returns : goal.returns
unfolding rows_by conditional_rows conditional_of conditional_fn_names
returns c = c.answer_named.ensures ∙ found_paired _ _ ∙ conditional_paired _
