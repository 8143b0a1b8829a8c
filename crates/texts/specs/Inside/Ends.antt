-- What two texts of one length have in common at their ends.
use Rattle.std.specs.Prelude.{◌≡◌, ℕ, ◌+◌, ◌≤◌, ◌<◌, length, get_or, drop}
use Rattle.semantics.specs.Tree.{Text}

-- n bytes from byte i on are the same
pub record Alike (a b : Text) (i n : ℕ) : Type 0 where
  pub same_at : (k : ℕ) → k < n → get_or a (i + k) 0 ≡ get_or b (i + k) 0

-- the bytes from byte i on are the same, so that the first i are left to compare
pub record Left (a b : Text) (i : ℕ) : Type 0 where
  pub inside : i ≤ length a
  pub ends : drop i a ≡ drop i b
