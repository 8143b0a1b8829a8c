-- What is said of values in specs/Values.antt, case by case in document 01's words (proofs/ValueLaws.antt). Demand 3 would be proved as well with a list
-- for a path: it only needs that tests and narrowings mean the same.
use Rattle.std.specs.Prelude.{◌≡◌, Bool, true, false, ◌⊎◌, ◌↔◌, List, ℕ, Some, None}
use Rattle.semantics.specs.Base.{◌∈◌}
use Rattle.semantics.specs.Tree.{Text, Tree, same, text_at}
use Rattle.semantics.specs.Words.{Sort, Null, Bool', Int, Float, String, Path, List', Set, Function, number}
use Rattle.semantics.specs.Narrow.{is, numeric, has, Narrowing}
use Rattle.semantics.specs.Values.{Builtin, Value, null, integer, float, string, path, list, function, bool, set, builtin, sort, holds, outcome, passed}
use Rattle.semantics.specs.Values.{Model, TrueIn, CameOut}

-- "null, bool, integer, float, string, path, list, set with its keys, or function"
abbrev pub Sorted : Type 0
Sorted =
    (sort null ≡ Null) × ((b : Bool) → sort (bool b) ≡ Bool') × (sort integer ≡ Int) × (sort float ≡ Float) × (sort string ≡ String) × (sort path ≡ Path)
    × (sort list ≡ List') × ((ks : List Text) → sort (set ks) ≡ Set) × (sort function ≡ Function) × ((β : Builtin) → sort (builtin β) ≡ Function)

-- "a set holding the key": one of its keys is that text
abbrev pub Holding : Text → Value → Type 0
Holding x v = (ks : List Text) × (y : Text) × (v ≡ set ks) × (y ∈ ks) × (same x y ≡ true)

-- what each word on values says, both ways
pub record ValuesMean : Type 0 where
  pub sorts : Sorted
  -- "two numbers": integers and floats
  pub numbers : (s : Sort) → number s ≡ true ↔ ((s ≡ Int) ⊎ (s ≡ Float))
  pub holding : (x : Text) (v : Value) → holds x v ≡ true ↔ Holding x v
  -- a bool is a condition's outcome, and nothing else is
  pub outcomes : (v : Value) (b : Bool) → outcome v ≡ Some b ↔ v ≡ bool b
  -- "IsType means that sort, IsAttrSet a set, IsList a list, IsFunction a function"; "IsNotType means another sort"
  pub of_sort : (t : Tree) (s : Sort) (v : Value) → passed t (is s) v ≡ true ↔ sort v ≡ s
  -- document 02, order 5: "IsNumber (true of an integer or a float)"
  pub of_number : (t : Tree) (v : Value) → passed t numeric v ≡ true ↔ ((sort v ≡ Int) ⊎ (sort v ≡ Float))
  -- "HasField a set holding the key"; "NotHasField means anything but a set holding the key"
  pub of_key : (t : Tree) (k : ℕ) (v : Value) → passed t (has k) v ≡ true ↔ Holding (text_at t k) v
  -- "None is true of a name that fails."
  pub failing : (t : Tree) (m : Model) (r : Narrowing) → m.name r.name ≡ None → TrueIn t m r → ⊥
  -- and of one that has a value the narrowing is true if the value passes as it says
  pub valued : (t : Tree) (m : Model) (r : Narrowing) (v : Value) → m.name r.name ≡ Some v → TrueIn t m r ↔ (passed t r.test v ≡ r.passes)
  -- "A guard came out the way that leads there if its value is false for an else branch, true for the others."
  pub thens : (m : Model) (c : ℕ) → CameOut m (record { condition = c; outcome = true }) ↔ (m.expr c ≡ Some (bool true))
  pub elses : (m : Model) (c : ℕ) → CameOut m (record { condition = c; outcome = false }) ↔ (m.expr c ≡ Some (bool false))
