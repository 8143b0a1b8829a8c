-- Demand 3 of what runs: of the walk that `name_dependencies` makes with the tables that our own calls write for the image.
use Rattle.std.specs.Prelude.{ℕ, ◌≡◌, true, List, Some}
use Rattle.semantics.specs.Base.{◌∈◌}
use Rattle.semantics.specs.Tree.{Tree}
use Rattle.semantics.specs.Resolution.{Tables, own}
use Rattle.semantics.specs.Narrow.{Narrowing}
use Rattle.semantics.specs.Walk.{Guard, Visit, guards, opened, walk, recorded}
use Rattle.semantics.specs.Values.{Model, TrueIn, CameOut}
use Rattle.semantics.specs.Premises.{Agrees}
use Rattle.image_fields.specs.Image.{decode}
use Rattle.image.specs.Refusals.{image_refusal}
use Rattle.lent.specs.Calls.{refusal_of}
use Rattle.index.specs.Own.{own_resolutions, own_bindings, tables_read}
use Rattle.walk.specs.Outcome.{Question, Lent, question, affordable, room, walking}

-- "A point is one visit of the walk's definition": at each visit of the walk that runs, if each guard around it came out the way that leads there, each
-- narrowing in force there is true.
abbrev pub RunningSound : Type 0
RunningSound =
    (s : List ℕ) → image_refusal s ≡ 0 → (m : Model) → Agrees (decode s) (own (decode s)) m
    → (v : Visit) → v ∈ walk (decode s) (tables_read s) → ((g : Guard) → g ∈ guards (decode s) (tables_read s) v → CameOut m g)
    → (r : Narrowing) → r ∈ v.in_force → TrueIn (decode s) m r

-- "recorded narrowings .. (binding .., record ..)": one stands in force at a visit of the binding's own expression
pub record InForceAt (t : Tree) (tab : Tables) (name : ℕ) (r : Narrowing) : Type 0 where
  pub visit : Visit
  pub walked : visit ∈ walk t tab
  pub opens : opened visit ≡ Some name
  pub stands : r ∈ visit.in_force

abbrev pub RecordedInForce : Type 0
RecordedInForce = (t : Tree) (tab : Tables) (b : ℕ × Narrowing) → b ∈ recorded t tab → InForceAt t tab b.0 b.1

-- the call with these tables
abbrev pub own_question : List ℕ → ℕ → Question
own_question s budget = question s (own_resolutions s) (own_bindings s) budget

-- 7, "an entry outside what its section below allows", is never given for these tables
abbrev pub NeverSeven : Type 0
NeverSeven = (s : List ℕ) (budget : ℕ) (l : Lent) → refusal_of walking (own_question s budget) l ≡ 7 → ⊥

-- so the call answers of every accepted image, with a budget of the run's steps and buffers that have room
abbrev pub Answers : Type 0
Answers =
    (s : List ℕ) → image_refusal s ≡ 0 → (budget : ℕ) (l : Lent) → affordable (own_question s budget) ≡ true → room (own_question s budget) l ≡ true
    → refusal_of walking (own_question s budget) l ≡ 0
