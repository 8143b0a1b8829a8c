-- What the private functions of the code promise each other: the levels of the expressions below e, 2 bytes each.
use Rattle.std.specs.Prelude.{◌≡◌, List, ℕ, ◌≤◌, ◌<◌, length, get_or}
use Rattle.semantics.specs.Tree.{Tree}
use Rattle.levels.specs.Depth.{levels_from}

pub record Known (t : Tree) (e : ℕ) (levels : List ℕ) : Type 0 where
  pub long : e ≤ length levels
  pub known : (x : ℕ) → x < e → get_or levels x 0 ≡ levels_from t x
