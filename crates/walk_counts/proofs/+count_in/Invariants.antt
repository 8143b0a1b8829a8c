use Prim.Native.Nat.{◌-◌}
use Rattle.walk_counts.proofs.+count_in.Given as goal

abbrev pub decreases-count_in : goal.decreases-count_in
decreases-count_in l = 16384 - l.room
