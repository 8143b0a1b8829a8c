-- What the walk keeps, and what its functions promise each other.
use Rattle.std.specs.Prelude.{ℕ, ◌+◌, ◌-◌, ◌*◌, ◌%◌, ◌≤◌, ◌<◌, ◌^◌, max, ◌≡◌, false, List, [], ◌∷◌, ◌++◌, map, length, Option}
use Rattle.image_fields.specs.Inside.Words.{word_of}
use Rattle.semantics.specs.Codes.{widths}
use Rattle.semantics.specs.Base.{each}
use Rattle.semantics.specs.Tree.{Tree}
use Rattle.semantics.specs.Resolution.{Tables}
use Rattle.semantics.specs.Narrow.{Narrowing}
use Rattle.semantics.specs.Walk.{Step, Visit, visits_from}
use Rattle.image_fields.specs.Image.{decode}
use Rattle.lent.specs.Inside.Stores.{entered}
use Rattle.given.specs.Given.{given}
use Rattle.narrow_texts.specs.Inside.Numbers.{numbered}
use Rattle.narrow_leaf.specs.Inside.Told.{record_number}
use Rattle.narrow_run.specs.Inside.Run.{stored, Fed}
use Rattle.walk_visit.specs.declared.State.{State}
use Rattle.walk_visit.specs.Inside.Parts.{recorded_words, numbers_in, edge_number}
use Rattle.walk_guard.specs.Inside.Added.{credit}
use Rattle.walk_run.specs.Inside.Effects.{Effect, doing, recorded_numbers}

-- the same with the buffers
pub record Sheet : Type 0 where
  pub state : State
  pub edges : List ℕ
  pub narrowings : List ℕ
  pub exprs : List ℕ
  pub working : List ℕ

abbrev pub sheet : State → List ℕ → List ℕ → List ℕ → List ℕ → Sheet
sheet state edges narrowings exprs working =
    record { state = state; edges = edges; narrowings = narrowings; exprs = exprs; working = working }

-- these narrowings are in force, so many, and the working list has their records if it has room
pub record Stands (ns : List Narrowing) (force : ℕ) (w : List ℕ) : Type 0 where
  pub number : force ≡ length ns
  pub records : widths.narrowing * force ≤ length w → numbers_in w 0 force ≡ map (λ r. record_number r % 2 ^ 32) ns

-- the first so many records are as they were
abbrev pub Kept : ℕ → List ℕ → List ℕ → Type 0
Kept force w w' = (i : ℕ) → i < force → word_of w' (widths.narrowing * i) 4 ≡ word_of w (widths.narrowing * i) 4

-- the buffers that are read again, or written by what is read, have room
pub record Roomy (x : Sheet) : Type 0 where
  pub working : widths.narrowing * x.state.most ≤ length x.working
  pub narrowings : widths.recorded * x.state.recorded ≤ length x.narrowings

-- what a part of the walk leaves, whatever it visits
pub record Went (force : ℕ) (x y : Sheet) : Type 0 where
  pub fewer : y.state.left ≤ x.state.left
  pub edges : y.state.edges + y.state.left ≤ x.state.edges + x.state.left
  pub paid : credit y.state ≤ credit x.state
  pub recorded : x.state.recorded ≤ y.state.recorded
  pub most : x.state.most ≤ y.state.most
  pub long-narrowings : length y.narrowings ≡ length x.narrowings
  pub long-working : length y.working ≡ length x.working
  pub kept : 0 < y.state.left → Kept force x.working y.working

-- what an effect leaves: 0 is left where it exceeds the budget, and if it does not, each buffer has its part where there is room
pub record Ran (f : Effect) (x y : Sheet) : Type 0 where
  pub count : y.state.left ≡ x.state.left - f.cost
  pub edges : 0 < y.state.left → Fed (map edge_number f.edges) x.state.edges y.state.edges x.edges y.edges
  pub most : 0 < y.state.left → y.state.most ≡ max x.state.most f.most
  pub recorded : 0 < y.state.left → y.state.recorded ≡ x.state.recorded + length f.recorded
  pub exprs : 0 < y.state.left → y.exprs ≡ entered f.bound x.exprs
  pub narrowings : 0 < y.state.left → Roomy y → y.narrowings ≡ stored (recorded_numbers f.recorded) (recorded_words * x.state.recorded) x.narrowings

-- what the visits below e ask more: e is visited
pub record Opened (force : ℕ) (state : State) : Type 0 where
  pub force_most : force ≤ state.most
  pub credit-few : credit state ≤ 2 ^ 64

-- a step that opens no binding
abbrev pub step_to : ℕ → Option ℕ → Step
step_to e b = record { expr = e; item = 0; binding = b; opens = false; adds = [] }

-- the visits of e, in a binding, with so many narrowings in force
pub record Traversed (s resolutions bindings : List ℕ) (e bound force : ℕ) (x y : Sheet) : Type 0 where
  pub went : Went force x y
  pub paid : credit y.state + 2 ^ 32 ≤ credit x.state
  pub ran : (way : List (ℕ × ℕ)) (ns : List Narrowing) → Stands ns force x.working
      → Ran (doing (decode s) (given resolutions bindings) (visits_from (decode s) (given resolutions bindings) (step_to e (numbered bound)) way ns)) x y

-- the visits that steps down from e lead to
abbrev pub visits_below : Tree → Tables → ℕ → List (ℕ × ℕ) → List Narrowing → List Step → List Visit
visits_below t tab e way ns ds = each (λ d. visits_from t tab d (way ++ (e, d.item) ∷ []) (ns ++ d.adds)) ds
