use Rattle.narrow_leaf.proofs.ToldLaws.{literal_told_lem}
use Rattle.narrow_leaf.proofs.told.literal_info.Goals as goal

pub returns : goal.returns
returns c = literal_told_lem _ c.equal.ensures c.unequal.ensures
