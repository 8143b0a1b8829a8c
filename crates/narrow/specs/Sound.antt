-- Demand 3 of a condition's lists, of the bytes that `analyze_condition` leaves with the tables that our own calls write for the image.
use Rattle.std.specs.Prelude.{ℕ, ◌+◌, ◌*◌, ◌<◌, ◌≡◌, Bool, true, cond, List, Some, Ok}
use Rattle.semantics.specs.Codes.{widths, bits}
use Rattle.semantics.specs.Tree.{Tree}
use Rattle.semantics.specs.Resolution.{own}
use Rattle.semantics.specs.Values.{Value, bool, Model}
use Rattle.semantics.specs.Premises.{Agrees}
use Rattle.semantics.specs.Records.{record_holds}
use Rattle.image_fields.specs.Image.{field_in, decode}
use Rattle.lent.specs.Calls.{leaves, outcome}
use Rattle.narrow.specs.Outcome.{Question, Lent, question, analyzed, analysis}
use Rattle.index.specs.Own.{own_resolutions, own_bindings}

-- "Record, 32: name 14, sort 4, value 14": the fields of the record at a byte
abbrev pub record_name : List ℕ → ℕ → ℕ
record_name l at = field_in l at 0 bits.number

abbrev pub record_sort : List ℕ → ℕ → ℕ
record_sort l at = field_in l at bits.number bits.sort

abbrev pub record_value : List ℕ → ℕ → ℕ
record_value l at = field_in l at (bits.number + bits.sort) bits.number

-- the record at a byte is true: "None is true of a name that fails", so its name has a value, and what it says holds of that
pub record TrueAt (t : Tree) (m : Model) (l : List ℕ) (at : ℕ) : Type 0 where
  pub value : Value
  pub named : m.name (record_name l at) ≡ Some value
  pub holds : record_holds t (record_sort l at) (record_value l at) value ≡ true

-- "Tables come from our own calls on this image."
abbrev pub own_question : List ℕ → ℕ → ℕ → Question
own_question s c budget = question s (own_resolutions s) (own_bindings s) c budget

-- where the call answers and the condition came out b, each of the records that it counts in the list for b is true
abbrev pub ListsSound : Type 0
ListsSound =
    (s : List ℕ) (m : Model) → Agrees (decode s) (own (decode s)) m
    → (c budget : ℕ) (before after : Lent) (steps thens elses : ℕ) → leaves (Ok (analyzed steps thens elses)) after ≡ outcome analysis (own_question s c budget) before
    → (b : Bool) → m.expr c ≡ Some (bool b)
    → (i : ℕ) → i < cond b thens elses → TrueAt (decode s) m (cond b after.thens after.elses) (widths.narrowing * i)
