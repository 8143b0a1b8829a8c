use native.Mathlib.Omega.{arith}
use Rattle.walk_counts.proofs.count_steps.Goals as goal

pub count_visits-requires : goal.count_visits-requires
count_visits-requires c = record { resolutions_value = c.requires.resolutions_value; budget_bound = (c.requires.budget_bound.0, omega (arith, c.requires.budget_bound.1, c.fill_nodes.auto.room)); filled = rw c.expr_count.ensures at c.fill_nodes.ensures; holds = c.requires.holds }
