use Rattle.given.proofs.ResolutionLaws.{no_name_lem, under-builtin, no-expr, some-expr}
use Rattle.given.proofs.value_fits.Goals as goal

pub returns-then-tag-eq-DEFINITION : goal.returns-then-tag-eq-DEFINITION
returns-then-tag-eq-DEFINITION c = no_name_lem _ _ _ (c.requires.2 c.if-tag-eq-DEFINITION.true) c.if-tag-eq-DEFINITION.true

pub returns-then-tag-eq-BUILTIN : goal.returns-then-tag-eq-BUILTIN
returns-then-tag-eq-BUILTIN c = under-builtin _ _ _ c.if-tag-eq-BUILTIN.true

pub returns-then-value-exprs : goal.returns-then-value-exprs
returns-then-value-exprs c = no-expr _ _ _ c.requires.1 c.if-tag-eq-DEFINITION.false c.if-tag-eq-BUILTIN.false c.requires.0 c.if-value-exprs.true

pub returns : goal.returns
returns c = some-expr _ _ _ c.requires.1 c.if-tag-eq-DEFINITION.false c.if-tag-eq-BUILTIN.false c.requires.0 c.if-value-exprs.false c.kind.ensures
