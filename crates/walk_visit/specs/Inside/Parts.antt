-- What a visit keeps, and what its parts promise each other.
use Rattle.std.specs.Prelude.{ℕ, zero, suc, ◌+◌, ◌-◌, ◌*◌, ◌/◌, ◌≤◌, ◌<◌, ◌^◌, max, ◌≡◌, true, false, List, [], ◌∷◌, map, length, Option, Some}
use Rattle.image_fields.specs.Inside.Words.{word_of}
use Rattle.semantics.specs.Codes.{widths, bits}
use Rattle.semantics.specs.Base.{each, listed, ◌>>=◌}
use Rattle.semantics.specs.Tree.{Tree}
use Rattle.semantics.specs.Resolution.{Tables}
use Rattle.semantics.specs.Narrow.{local_name}
use Rattle.lent.specs.Inside.Stores.{word, store16}
use Rattle.narrow_run.specs.Inside.Run.{stored, Fed}
use Rattle.walk_visit.specs.declared.State.{State}
use Rattle.walk_visit.specs.declared.Rule.{Rule}
use Rattle.walk_visit.specs.Inside.Steps.{opens_at}

-- n numbers of 32 bits from the one with number k on
unfoldable pub numbers_in : List ℕ → ℕ → ℕ → List ℕ
numbers_in w k zero = []
numbers_in w k (suc n) = word_of w (word * k) word ∷ numbers_in w (k + 1) n

-- the edge from the binding around an expression, and as a number of 32 bits
unfoldable pub edges_of : Tree → Tables → ℕ → Option ℕ → List (ℕ × ℕ)
edges_of t tab e b = listed (b >>= λ from. local_name t tab e >>= λ to. Some (from, to))

unfoldable pub edge_number : ℕ × ℕ → ℕ
edge_number e = (e.0 * 2 ^ bits.number + e.1) * 2 ^ bits.edge_spare

-- `visit`: one step, and the edge from the binding around it
pub record Stepped (t : Tree) (tab : Tables) (e : ℕ) (b : Option ℕ) (force : ℕ) (state : State) (edges : List ℕ) (state' : State) (edges' : List ℕ) : Type 0 where
  pub left : state'.left ≡ state.left - 1
  pub recorded : state'.recorded ≡ state.recorded
  pub few : state'.edges + state'.left ≤ state.edges + state.left
  pub more : state.most ≤ state'.most
  pub most : 0 < state'.left → state'.most ≡ max state.most force
  pub fed : 0 < state'.left → Fed (map edge_number (edges_of t tab e b)) state.edges state'.edges edges edges'

-- `edge`: the same without the step
pub record Edged (t : Tree) (tab : Tables) (e : ℕ) (b : Option ℕ) (state : State) (edges : List ℕ) (state' : State) (edges' : List ℕ) : Type 0 where
  pub left : state'.left ≡ state.left
  pub recorded : state'.recorded ≡ state.recorded
  pub most : state'.most ≡ state.most
  pub fed : Fed (map edge_number (edges_of t tab e b)) state.edges state'.edges edges edges'

-- so many numbers of 32 bits is a recorded narrowing
abbrev pub recorded_words : ℕ
recorded_words = widths.recorded / word

-- `record_active`: these records under a name
unfoldable pub records_of : ℕ → List ℕ → List ℕ
records_of name xs = each (λ x. name * 2 ^ bits.binding_spare ∷ x ∷ []) xs

abbrev pub Copied : ℕ → ℕ → ℕ → List ℕ → List ℕ → List ℕ → Type 0
Copied name force count w before now =
    widths.narrowing * force ≤ length w → widths.recorded * (count + force) ≤ length before → now ≡ stored (records_of name (numbers_in w 0 force)) (recorded_words * count) before

-- `record_binding`: what is in force recorded under a name, and the name's expression
pub record Recorded (name e force : ℕ) (w : List ℕ) (state : State) (narrowings exprs : List ℕ) (state' : State) (narrowings' exprs' : List ℕ) : Type 0 where
  pub left : state'.left ≡ state.left
  pub edges : state'.edges ≡ state.edges
  pub recorded : state'.recorded ≡ state.recorded + force
  pub most : state'.most ≡ state.most
  pub copied : Copied name force state.recorded w narrowings narrowings'
  pub bound : exprs' ≡ store16 exprs (widths.entry * name) e

-- `open_binding`: the same where an item is the own expression of a binding
pub record Bound (rule : Rule) (role name e force : ℕ) (w : List ℕ) (state : State) (narrowings exprs : List ℕ) (state' : State) (narrowings' exprs' : List ℕ) : Type 0 where
  pub opened : opens_at rule role ≡ true → Recorded name e force w state narrowings exprs state' narrowings' exprs'
  pub same : opens_at rule role ≡ false → (state' ≡ state) × (narrowings' ≡ narrowings) × (exprs' ≡ exprs)
