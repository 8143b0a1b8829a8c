-- How many nodes of conditions there are, as the code keeps it, and what is told of an analysis before its first node.
use Rattle.std.specs.Prelude.{◌≡◌, Bool, true, false, List, ℕ, ◌*◌, ◌≤◌, ◌<◌, min}
use Rattle.semantics.specs.Tree.{Tree}
use Rattle.semantics.specs.Narrow.{nodes}
use Rattle.resolve_counts.specs.Inside.Visits.{stop, count_at}

-- room that has the nodes of each expression below n
pub record Filled (t : Tree) (n : ℕ) (room : List ℕ) : Type 0 where
  pub counts : (e : ℕ) → e < n → count_at room e ≡ min (nodes t e) stop

-- the nodes of c: exact if they are no more than the largest count
pub record Counted (t : Tree) (c r : ℕ) : Type 0 where
  pub told : r ≤ stop → r ≡ nodes t c
  pub over : stop < r → stop < nodes t c
  pub small : r < 3 * stop

-- up to so many steps an expression a run is made without a count before it: the image bounds it then
abbrev pub steps_an_expr : ℕ
steps_an_expr = 16

-- whether the steps of a run are within a budget: this is asked of a large one alone
pub record Affords (exprs steps budget : ℕ) (r : Bool) : Type 0 where
  pub within : r ≡ true → steps_an_expr * exprs < budget → steps ≤ budget
  pub over : r ≡ false → budget < steps
