-- The chains of References that wait, as the events hold them, and what is written for them.
use Rattle.std.specs.Prelude.{◌≡◌, cond, List, [], ◌∷◌, ℕ, ◌+◌, ◌*◌, ◌≤◌, ◌<◌, leb, length}
use Rattle.semantics.specs.Codes.{widths}
use Rattle.lent.specs.Inside.Stores.{store16}
use Rattle.resolve_laws.specs.Inside.Logged.{half}

-- the places of a chain: its head is one more than the first, or 0, and the second number of each event leads on in the same way
unfoldable pub Chain : List ℕ → ℕ → List ℕ → Type 0
Chain w h [] = h ≡ 0
Chain w h (q ∷ qs) = (h ≡ q + 1) × Chain w (half w (2 * q + 1)) qs

-- places that fall, all below n
unfoldable pub Falls : ℕ → List ℕ → Type 0
Falls n [] = Unit {0}
Falls n (q ∷ qs) = (q < n) × Falls q qs

-- an entry in the table for each place of a chain from `start` on, at the expression of its event
unfoldable pub written : List ℕ → ℕ → ℕ → List ℕ → List ℕ → List ℕ
written w start x [] table = table
written w start x (q ∷ qs) table = cond (leb start q) (written w start x qs (store16 table (widths.entry * half w (2 * q)) x)) table

-- what is left of the chain then
unfoldable pub behind : ℕ → List ℕ → List ℕ
behind start [] = []
behind start (q ∷ qs) = cond (leb start q) (behind start qs) (q ∷ qs)

-- a head has a chain, whose events are in the buffer
pub record Chained (w : List ℕ) (h : ℕ) : Type 0 where
  pub places : List ℕ
  pub many : ℕ
  pub chain : Chain w h places
  pub falls : Falls many places
  pub room : 2 * widths.entry * many ≤ length w

-- the table and the head of what is left, after an entry x was written for a chain from `start` on
pub record Unchained (w : List ℕ) (h start x : ℕ) (table table' : List ℕ) (r : ℕ) : Type 0 where
  pub entries : (qs : List ℕ) → Chain w h qs → table' ≡ written w start x qs table
  pub rest : (qs : List ℕ) → Chain w h qs → Chain w r (behind start qs)
