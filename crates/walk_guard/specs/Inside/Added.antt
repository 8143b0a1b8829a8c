-- What a visit asks, and what its condition adds, in the terms of the code.
use Rattle.std.specs.Prelude.{ℕ, ◌+◌, ◌-◌, ◌*◌, ◌≤◌, ◌<◌, ◌^◌, ◌≡◌, Bool, true, false, ◌⊎◌, List, [], map}
use Rattle.semantics.specs.Tree.{Tree}
use Rattle.semantics.specs.Resolution.{Tables}
use Rattle.image_fields.specs.Image.{expr_count}
use Rattle.image.specs.Inside.Accepted.{Accepted}
use Rattle.given.specs.Bindings.{bindings_fit}
use Rattle.given.specs.Resolutions.{resolutions_fit}
use Rattle.narrow_leaf.specs.Inside.Told.{record_number}
use Rattle.narrow_run.specs.declared.Takes.{Takes}
use Rattle.narrow_run.specs.declared.Takes.TheVariants.{ForTrue, ForFalse, Neither}
use Rattle.narrow_run.specs.Inside.Run.{Fed}
use Rattle.walk_visit.specs.declared.State.{State}
use Rattle.walk_visit.specs.declared.Rule.{Rule}
use Rattle.walk_visit.specs.declared.Rule.TheVariants.{Others, Guarded}
use Rattle.walk_visit.specs.Inside.Steps.{rule_of, nodes_at, counted_at, adds_at}

-- the item that takes this list of its owner's condition
unfoldable pub item_of : Takes → ℕ
item_of ForTrue = 1
item_of ForFalse = 2
item_of Neither = 0

-- the list that is counted with it
unfoldable pub beside : Takes → Takes
beside ForTrue = ForFalse
beside ForFalse = Neither
beside Neither = Neither

-- a bound that no step raises: each binding that is opened is a visit, and less than 2 ^ 32 narrowings are in force there
abbrev pub credit : State → ℕ
credit state = state.recorded + 2 ^ 32 * state.left

-- what a visit of e asks
pub record Ready (s resolutions bindings : List ℕ) (e force : ℕ) (state : State) : Type 0 where
  pub accepted : Accepted s
  pub resolved : resolutions_fit s resolutions ≡ true
  pub bound : bindings_fit s bindings ≡ true
  pub inside : e < expr_count s
  pub going : 0 < state.left
  pub force_few : force + state.left ≤ 2 ^ 32
  pub edges_few : state.edges + state.left ≤ 2 ^ 32
  pub credit-few : credit state < 2 ^ 64 + 2 ^ 32

-- what an analysis may spend beside what is in force: what is left where its nodes are counted, else all that a list can have room for
pub record Spends (t : Tree) (tab : Tables) (e k whole force : ℕ) (state : State) : Type 0 where
  pub counted : k ≡ 1 → whole ≡ state.left + force
  pub free : (k ≡ 1 → ⊥) → (whole ≡ 2 ^ 32) × (force + nodes_at t tab e + state.left ≤ 2 ^ 32)

-- the rule of item k: that of its owner, or none where of the owner's condition only the list for false is left, which is empty
abbrev pub Ruled : Tree → Tables → ℕ → Rule → ℕ → Type 0
Ruled t tab e rule k = (rule ≡ rule_of t e) ⊎ ((rule ≡ Others) × (rule_of t e ≡ Guarded) × (1 < k) × (adds_at t tab e 2 ≡ []))

-- `rule_behind`
abbrev pub Behind : Rule → ℕ → ℕ → Rule → Type 0
Behind rule k elses r = (r ≡ rule) ⊎ ((r ≡ Others) × (rule ≡ Guarded) × (k ≡ 1) × (elses ≡ 0))

-- `inside`, `analyzed`: what is added at item k behind what is in force, and the nodes that are counted there
pub record Inside (t : Tree) (tab : Tables) (e k force : ℕ) (state : State) (w : List ℕ) (state' : State) (w' : List ℕ) (inside : ℕ) : Type 0 where
  pub left : state'.left ≡ state.left - counted_at t tab e k
  pub edges : state'.edges ≡ state.edges
  pub recorded : state'.recorded ≡ state.recorded
  pub most : state'.most ≡ state.most
  pub few : 0 < state'.left → inside + state'.left ≤ 2 ^ 32
  pub fed : 0 < state'.left → Fed (map record_number (adds_at t tab e k)) force inside w w'
  pub elses : k ≡ 1 → 0 < state'.left → state'.elses ≡ 0 → adds_at t tab e 2 ≡ []
