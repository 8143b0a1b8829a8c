use native.Mathlib.Omega.{arith}
use Rattle.walk_counts.proofs.+count_in.Goals as goal

pub expr_count-requires : goal.expr_count-requires
expr_count-requires t c = omega (arith, c.args.image.accepted.sized.size)

pub overflow_mul-room : goal.overflow_mul-room
overflow_mul-room t c = omega (arith, c.if-expr_count-room.true, c.expr_count.ensures, c.args.image.accepted.sized.exprs-few)

pub count_in-requires : goal.count_in-requires
count_in-requires t c = (
  omega (arith, c.decreases, c.if-expr_count-room.true, c.expr_count.ensures, c.args.image.accepted.sized.exprs-few, c.requires.room_nonzero),
  (c.requires.resolutions_value, (c.requires.budget_bound, omega (arith, c.requires.room_nonzero))),
)
