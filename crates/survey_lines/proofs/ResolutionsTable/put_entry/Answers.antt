use Rattle.survey_lines.proofs.LineLaws.{no_line, one_line, word_def, word-builtin, word_with}
use Rattle.survey_lines.proofs.ResolutionsTable.put_entry.Goals as goal

pub returns-then-tag-eq-NONE : goal.returns-then-tag-eq-NONE
returns-then-tag-eq-NONE c = no_line _ _ c.tag-tag.ensures c.if-tag-eq-NONE.true

pub returns-then-tag-eq-DEFINITION : goal.returns-then-tag-eq-DEFINITION
returns-then-tag-eq-DEFINITION c =
    one_line _ _ c.tag-tag.ensures c.if-tag-eq-NONE.false (word_def c.if-tag-eq-DEFINITION.true) c.value.ensures c.put_decimal.ensures c.put_line.ensures

pub returns-then-tag-eq-BUILTIN : goal.returns-then-tag-eq-BUILTIN
returns-then-tag-eq-BUILTIN c =
    one_line _ _ c.tag-tag.ensures c.if-tag-eq-NONE.false (word-builtin c.if-tag-eq-BUILTIN.true) c.value.ensures c.put_decimal.ensures
    c.put_line-then-tag-eq-BUILTIN.ensures

pub returns : goal.returns
returns c =
    one_line _ _ c.tag-tag.ensures c.if-tag-eq-NONE.false (word_with _ c.if-tag-eq-DEFINITION.false c.if-tag-eq-BUILTIN.false) c.value.ensures
    c.put_decimal.ensures c.put_line-2.ensures
