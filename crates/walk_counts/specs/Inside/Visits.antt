-- How often each expression is visited by the walk, as the code keeps it, and what is told of a walk before its first visit.
use Rattle.std.specs.Prelude.{◌≡◌, Bool, List, map, ℕ, ◌+◌, ◌≤◌, ◌<◌, ◌^◌, length}
use Rattle.semantics.specs.Base.{keep}
use Rattle.semantics.specs.Tree.{Tree, Item, expr_at}
use Rattle.semantics.specs.Resolution.{Tables}
use Rattle.semantics.specs.Walk.{walk_steps}
use Rattle.image_fields.specs.Image.{expr_count, decode}
use Rattle.given.specs.Given.{given}
use Rattle.resolve_laws.specs.Inside.Counts.{add_all}
use Rattle.resolve_counts.specs.Inside.Visits.{stop, Holds}
use Rattle.narrow_counts.specs.Inside.Nodes.{Affords}
use Rattle.walk_visit.specs.declared.Rule.{Rule}
use Rattle.walk_visit.specs.Inside.Steps.{rule_of, enters_item, nodes_at}

-- what is entered of these items under a rule
unfoldable pub entered : Rule → List Item → List ℕ
entered rule is = map (λ i. i.expression) (keep (enters_item rule) is)

-- what a visit of e leads to, whatever the tables
abbrev pub kids : Tree → ℕ → List ℕ
kids t e = entered (rule_of t e) (expr_at t e).items

-- what a visit of e counts: exact if it is no more than the largest count
pub record Weighed (t : Tree) (tab : Tables) (e r : ℕ) : Type 0 where
  pub told : r ≤ stop → r ≡ 1 + nodes_at t tab e
  pub least : r ≤ 1 + nodes_at t tab e
  pub some : 0 < r
  pub few : r ≤ 2 ^ 32

-- v visits of the owner of these items: v more of each expression that is entered
pub record Pushed (s : List ℕ) (rule : Rule) (is : List Item) (v : ℕ) (before after : List ℕ) : Type 0 where
  pub kept : length after ≡ length before
  pub pushed : (pend : ℕ → ℕ) → Holds (expr_count s) pend before → Holds (expr_count s) (add_all pend v (entered rule is)) after

-- the steps of a walk, or that they exceed the budget, whatever the bindings
pub record Counted (t : Tree) (resolutions : List ℕ) (budget r : ℕ) : Type 0 where
  pub told : r ≤ budget → (bindings : List ℕ) → r ≡ walk_steps t (given resolutions bindings)
  pub over : budget < r → (bindings : List ℕ) → budget < walk_steps t (given resolutions bindings)

-- whether the steps of a walk are within a budget, whatever the bindings
pub record Affordable (s resolutions : List ℕ) (budget : ℕ) (r : Bool) : Type 0 where
  pub walks : (bindings : List ℕ) → Affords (expr_count s) (walk_steps (decode s) (given resolutions bindings)) budget r
