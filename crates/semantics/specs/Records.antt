-- What a record says, by the numbers that stand in it (document 01, "Premises of demand 3": "A narrowing is true of a value thus").
use Rattle.std.specs.Prelude.{◌≡◌, Bool, true, false, not, [], ◌∷◌, ℕ, eqb, Some}
use Rattle.semantics.specs.Codes.{sorts}
use Rattle.semantics.specs.Base.{pick, ◌∈◌}
use Rattle.semantics.specs.Tree.{Tree, text_at}
use Rattle.semantics.specs.Words.{List', Set, Function, sort_number, same_sort, number}
use Rattle.semantics.specs.Resolution.{Tables}
use Rattle.semantics.specs.Narrow.{Narrowing, coded, analyze}
use Rattle.semantics.specs.Values.{Value, Model, sort, holds, TrueIn}

-- "IsType means that sort, IsAttrSet a set, IsList a list, IsFunction a function, HasField a set holding the key; IsNotType means another sort;
-- NotHasField means anything but a set holding the key", document 02, order 5: "IsNumber (true of an integer or a float)": of a record's sort and value
unfoldable pub record_holds : Tree → ℕ → ℕ → Value → Bool
record_holds t s x v =
    pick s
    ((sorts.IsType, eqb (sort_number (sort v)) x)
    ∷ (sorts.IsNotType, not (eqb (sort_number (sort v)) x))
    ∷ (sorts.HasField, holds (text_at t x) v)
    ∷ (sorts.NotHasField, not (holds (text_at t x) v))
    ∷ (sorts.IsAttrSet, same_sort (sort v) Set)
    ∷ (sorts.IsList, same_sort (sort v) List')
    ∷ (sorts.IsFunction, same_sort (sort v) Function)
    ∷ (sorts.IsNumber, number (sort v))
    ∷ [])
    false

-- the record of a true narrowing, as it stands in the bytes, is true of the value of the name that stands in it
abbrev pub RecordsTrue : Type 0
RecordsTrue =
    (t : Tree) (tab : Tables) (m : Model) (b : Bool) (c : ℕ) (r : Narrowing) → r ∈ analyze t tab b c → TrueIn t m r
    → (v : Value) × (m.name (coded r).0 ≡ Some v) × (record_holds t (coded r).1 (coded r).2 v ≡ true)
