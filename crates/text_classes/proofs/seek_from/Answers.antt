use native.Mathlib.Omega.{arith}
use Rattle.text_classes.proofs.ChainLaws.{seeking_start, seeking_end}
use Rattle.text_classes.proofs.seek_from.Goals as goal

pub returns-then-head-eq0 : goal.returns-then-head-eq0
returns-then-head-eq0 c = seeking_end (seeking_start _ c.requires.all) (omega arith) c.if-head-eq0.true

pub seek-requires : goal.seek-requires
seek-requires c = record { image_in_bounds = c.requires.image_in_bounds; x_bound = c.requires.x_bound; all = c.requires.all }
