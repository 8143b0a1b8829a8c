use native.Mathlib.Omega.{arith}
use Rattle.narrow_counts.proofs.count_nodes.Goals as goal

pub nodes_of-requires : goal.nodes_of-requires
nodes_of-requires c = record { c_bound = (c.requires.0, omega (arith, c.requires.1, c.fill_nodes.auto.room)); filled = c.fill_nodes.ensures }
