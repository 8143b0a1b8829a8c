use Prim.Native.Nat.{◌-◌}
use Rattle.resolve_settle.proofs.+settle_in.Given as goal

abbrev pub decreases-settle_in : goal.decreases-settle_in
decreases-settle_in l = 16384 - l.room
