use mathlib.Core.Path.{refl}
use Rattle.narrow_leaf.specs.Inside.Told.{turned}
use Rattle.narrow_leaf.proofs.told.turned.Goals as goal

pub returns : goal.returns
unfolding turned
returns c = refl
