-- What is left to visit from an item on, and what the functions of the walk promise of it.
use Rattle.std.specs.Prelude.{ℕ, ◌+◌, ◌≤◌, ◌<◌, ◌^◌, ◌≡◌, true, List, [], ◌∷◌, length, drop}
use Rattle.semantics.specs.Base.{pick, numbered, each}
use Rattle.semantics.specs.Tree.{Tree, Item, expr_at}
use Rattle.semantics.specs.Resolution.{Tables}
use Rattle.semantics.specs.Narrow.{Narrowing}
use Rattle.image_fields.specs.Image.{expr_count, decode}
use Rattle.image.specs.Inside.Accepted.{Accepted}
use Rattle.given.specs.Bindings.{bindings_fit}
use Rattle.given.specs.Resolutions.{resolutions_fit}
use Rattle.given.specs.Given.{given}
use Rattle.walk_visit.specs.declared.State.{State}
use Rattle.walk_visit.specs.declared.Rule.TheVariants.{Others}
use Rattle.walk_visit.specs.Inside.Steps.{rule_of, nodes_at, step_at}
use Rattle.walk_guard.specs.Inside.Added.{credit}
use Rattle.walk_run.specs.Inside.Effects.{Effect, joined, spent, doing}
use Rattle.walk_run.specs.Inside.Run.{Sheet, sheet, Stands, Went, Ran, visits_below}

-- the nodes of the condition: those still to be counted from an item on, and those counted before it
unfoldable pub owed : Tree → Tables → ℕ → ℕ → ℕ
owed t tab e k = pick k ((0, nodes_at t tab e) ∷ (1, nodes_at t tab e) ∷ []) 0

unfoldable pub paid_at : Tree → Tables → ℕ → ℕ → ℕ
paid_at t tab e k = pick k ((0, 0) ∷ (1, 0) ∷ []) (nodes_at t tab e)

-- what is done in the items that are left, and from item k on
module _ (t : Tree) (tab : Tables) (e bound : ℕ) (way : List (ℕ × ℕ)) (rs : List Narrowing) where
  unfoldable pub left_of : List (ℕ × Item) → Effect
  left_of is = doing t tab (visits_below t tab e way rs (each (step_at t tab e bound) is))

  unfoldable pub from_item : ℕ → Effect
  from_item k = joined (spent (owed t tab e k)) (left_of (drop k (numbered 0 (expr_at t e).items)))

module _ (s resolutions bindings : List ℕ) (e bound force start : ℕ) where
  -- `traverse_bindings`: all from an item on
  pub record Rest (x y : Sheet) : Type 0 where
    pub went : Went force x y
    pub ran : (way : List (ℕ × ℕ)) (rs : List Narrowing) → Stands rs force x.working → Ran (from_item (decode s) (given resolutions bindings) e bound way rs start) x y

  -- what is left from the item at k on gives all
  pub record Going (x here : Sheet) (k : ℕ) : Type 0 where
    pub below : k ≤ length (expr_at (decode s) e).items
    pub still : 0 < here.state.left
    pub few : force + paid_at (decode s) (given resolutions bindings) e k + here.state.left ≤ 2 ^ 32
    pub went : Went force x here
    pub rest : (way : List (ℕ × ℕ)) (rs : List Narrowing) → Stands rs force x.working → {inside : ℕ} (z : Sheet) → Went inside here z
        → Ran (from_item (decode s) (given resolutions bindings) e bound way rs k) here z → Ran (from_item (decode s) (given resolutions bindings) e bound way rs start) x z

-- `visit_leaves`: what it asks, and the items before the one at r, whatever the other buffers and the bindings are
pub record Leading (s resolutions : List ℕ) (e force : ℕ) (state : State) : Type 0 where
  pub accepted : Accepted s
  pub resolved : resolutions_fit s resolutions ≡ true
  pub inside : e < expr_count s
  pub going : 0 < state.left
  pub force_few : force + state.left ≤ 2 ^ 32
  pub edges_few : state.edges + state.left ≤ 2 ^ 32
  pub force_most : force ≤ state.most
  pub credit-few : credit state ≤ 2 ^ 64

pub record Led (s resolutions : List ℕ) (e bound force : ℕ) (state : State) (edges : List ℕ) (state' : State) (edges' : List ℕ) (r : ℕ) : Type 0 where
  pub bare : 0 < r → rule_of (decode s) e ≡ Others
  pub going : (bindings ns xs w : List ℕ) → bindings_fit s bindings ≡ true → 0 < state'.left → Going s resolutions bindings e bound force 0 (sheet state edges ns xs w) (sheet state' edges' ns xs w) r
  pub over : (bindings ns xs w : List ℕ) → bindings_fit s bindings ≡ true → state'.left ≡ 0 → Rest s resolutions bindings e bound force 0 (sheet state edges ns xs w) (sheet state' edges' ns xs w)
