-- Values and models (document 01, "Premises of demand 3").
use Rattle.std.specs.Prelude.{◌≡◌, Bool, false, not, List, ℕ, Option, Some, None}
use Rattle.semantics.specs.Base.{empty, keep}
use Rattle.semantics.specs.Tree.{Text, Tree, same, text_at}
use Rattle.semantics.specs.Words.{Sort, Null, Bool', Int, Float, String, Path, List', Set, Function, same_sort, number}
use Rattle.semantics.specs.Narrow.{Test, is, numeric, has, Narrowing}
use Rattle.semantics.specs.Walk.{Guard}

-- The built-in functions that a narrowing can rest on (manual, "Built-in functions"): a test for a sort (isNull, isString, ..), hasAttr, and hasAttr
-- with its first argument.
pub data Builtin : Type 0 where
  test : Sort → Builtin
  has_attr : Builtin
  has_attr_of : Text → Builtin

-- "null, bool, integer, float, string, path, list, set with its keys, or function": which number, string, path or list it is does not matter here. A
-- function is one of those built-in functions or another.
pub data Value : Type 0 where
  null integer float string path list function : Value
  bool : Bool → Value
  set : List Text → Value
  builtin : Builtin → Value

-- the sort of a value
unfoldable pub sort : Value → Sort
sort null = Null
sort (bool b) = Bool'
sort integer = Int
sort float = Float
sort string = String
sort path = Path
sort list = List'
sort (set ks) = Set
sort function = Function
sort (builtin β) = Function

-- "a set holding the key"
unfoldable pub holds : Text → Value → Bool
holds x null = false
holds x (bool b) = false
holds x integer = false
holds x float = false
holds x string = false
holds x path = false
holds x list = false
holds x (set ks) = not (empty (keep (same x) ks))
holds x function = false
holds x (builtin β) = false

-- the outcome of a condition with this value, if it is one
unfoldable pub outcome : Value → Option Bool
outcome null = None
outcome (bool b) = Some b
outcome integer = None
outcome float = None
outcome string = None
outcome path = None
outcome list = None
outcome (set ks) = None
outcome function = None
outcome (builtin β) = None

-- "A narrowing is true of a value thus: IsType means that sort, IsAttrSet a set, IsList a list, IsFunction a function, HasField a set holding the key;
-- IsNotType means another sort; NotHasField means anything but a set holding the key.", document 02, order 5: "IsNumber (true of an integer or a float)"
unfoldable pub passed : Tree → Test → Value → Bool
passed t (is s) v = same_sort (sort v) s
passed t numeric v = number (sort v)
passed t (has k) v = holds (text_at t k) v

-- "Each name and each expression has one value or none (it fails)"
pub record Model : Type 0 where
  pub name : ℕ → Option Value
  pub expr : ℕ → Option Value

-- a narrowing is true of its name's value; "None is true of a name that fails."
abbrev pub TrueIn : Tree → Model → Narrowing → Type 0
TrueIn t m r = (v : Value) × (m.name r.name ≡ Some v) × (passed t r.test v ≡ r.passes)

-- "A guard came out the way that leads there if its value is false for an else branch, true for the others."
abbrev pub CameOut : Model → Guard → Type 0
CameOut m g = m.expr g.condition ≡ Some (bool g.outcome)
