use native.Mathlib.Omega.{arith}
use Rattle.narrow_counts.proofs.+count_in.Goals as goal

pub overflow_mul-room : goal.overflow_mul-room
overflow_mul-room t c = omega (arith, c.if-c-room.true, c.requires.c_bound, c.args.image.accepted.sized.exprs-few)

pub count_in-requires : goal.count_in-requires
count_in-requires t c = (
  omega (arith, c.decreases, c.if-c-room.true, c.requires.c_bound, c.args.image.accepted.sized.exprs-few, c.requires.room_nonzero),
  (c.requires.c_bound, omega (arith, c.requires.room_nonzero)),
)
