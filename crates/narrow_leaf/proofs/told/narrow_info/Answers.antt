use mathlib.Core.Path.{ap}
use Rattle.narrow_leaf.specs.Inside.Told.{tells, predicate_told}
use Rattle.narrow_leaf.proofs.told.narrow_info.Goals as goal

pub returns : goal.returns
unfolding predicate_told
returns c = ap (tells _ _) c.else_predicate.ensures
