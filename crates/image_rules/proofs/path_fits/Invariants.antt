use Prim.Native.Nat.{◌+◌}
use Rattle.image_fields.specs.Image.{decode}
use Rattle.image_rules.proofs.ItemLaws.{Following}
use Rattle.image_rules.proofs.path_fits.Given as goal

abbrev pub invariant-loop-k : goal.invariant-loop-k
invariant-loop-k l = Following (decode l.items.image.now) l.items.owner l.items.count (l.kind + 7) l.k
