-- Demand 3 of the narrowings that `name_dependencies` records, of the bytes that it leaves with the tables that our own calls write for the image.
use Rattle.std.specs.Prelude.{ℕ, ◌+◌, ◌*◌, ◌<◌, ◌≡◌, List, Some, Ok, slice_get}
use Rattle.semantics.specs.Codes.{widths, bits}
use Rattle.semantics.specs.Base.{◌∈◌}
use Rattle.semantics.specs.Tree.{Tree}
use Rattle.semantics.specs.Resolution.{Tables, own}
use Rattle.semantics.specs.Narrow.{Narrowing, coded}
use Rattle.semantics.specs.Walk.{Guard, Visit, guards, walk, recorded}
use Rattle.semantics.specs.Values.{Model, CameOut}
use Rattle.semantics.specs.Premises.{Agrees}
use Rattle.image_fields.specs.Image.{field_in, decode}
use Rattle.lent.specs.Calls.{leaves, outcome}
use Rattle.narrow.specs.Sound.{record_name, record_sort, record_value, TrueAt}
use Rattle.walk.specs.Outcome.{Lent, walking, walked}
use Rattle.walk.specs.Running.{InForceAt, own_question}

-- "recorded narrowings, 64 (binding 14, zero 18, record 32)": the binding of the i-th, and the byte at which its record stands
abbrev pub binding_of : List ℕ → ℕ → ℕ
binding_of l i = field_in l (widths.recorded * i) 0 bits.number

abbrev pub record_place : ℕ → ℕ
record_place i = widths.recorded * i + widths.binding

-- what the i-th says, by the numbers that stand in its bytes
pub record RecordedSound (t : Tree) (tab : Tables) (m : Model) (l : List ℕ) (i : ℕ) : Type 0 where
  -- it is the i-th that the walk's definition records, under that binding
  pub narrowing : Narrowing
  pub entry : slice_get (recorded t tab) i ≡ Some (binding_of l i, narrowing)
  pub record_is : coded narrowing ≡ (record_name l (record_place i), record_sort l (record_place i), record_value l (record_place i))
  -- it is in force at a visit of the binding's own expression, and at each visit at which it is, if each guard came out the way that leads there, it is true
  pub in_force_lem : InForceAt t tab (binding_of l i) narrowing
  pub sound : (v : Visit) → v ∈ walk t tab → narrowing ∈ v.in_force → ((g : Guard) → g ∈ guards t tab v → CameOut m g) → TrueAt t m l (record_place i)

-- where the call answers, so says each of the narrowings that it counts
abbrev pub NarrowingsSound : Type 0
NarrowingsSound =
    (s : List ℕ) (m : Model) → Agrees (decode s) (own (decode s)) m
    → (budget : ℕ) (before after : Lent) (steps edges narrowings : ℕ)
    → leaves (Ok (walked steps edges narrowings)) after ≡ outcome walking (own_question s budget) before
    → (i : ℕ) → i < narrowings → RecordedSound (decode s) (own (decode s)) m after.narrowings i
