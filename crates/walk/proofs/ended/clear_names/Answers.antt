use Rattle.walk.proofs.EndLaws.{names_short, names-cleared}
use Rattle.walk.proofs.ended.clear_names.Goals as goal

pub returns-then-exprs-names : goal.returns-then-exprs-names
returns-then-exprs-names c = names_short _ _ c.if-exprs-names.true

pub returns : goal.returns
returns c = names-cleared _ _ c.if-exprs-names.false c.fill_none.ensures
