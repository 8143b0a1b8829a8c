use Rattle.index.proofs.OutcomeLaws.{short, filled}
use Rattle.index.proofs.index.Goals as goal

pub returns-then-table-names : goal.returns-then-table-names
returns-then-table-names c = short _ _ c.name_count-names.ensures c.if-table-names.true c.clear.ensures

pub returns : goal.returns
returns c = filled _ _ c.name_count-names.ensures c.args.image.accepted c.if-table-names.false c.fill_none.ensures c.enter_all.ensures
