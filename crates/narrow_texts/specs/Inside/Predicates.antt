-- `PrimitiveTy` and `NarrowPredicate`, as the code hands them on: document 01's numbers of each case, and which of them says what the definitions say.
use Rattle.std.specs.Prelude.{ℕ, Bool, true, cond, Option, Some, None}
use Rattle.semantics.specs.Codes.{sorts, types}
use Rattle.semantics.specs.Base.{◌>>=◌}
use Rattle.semantics.specs.Words.{Sort, Null, Bool', Int, Float, String, Path, List', Set, Function}
use Rattle.semantics.specs.Narrow.{Test, is, numeric, has}
use Rattle.narrow_texts.specs.declared.words.PrimitiveTy.{PrimitiveTy}
use Rattle.narrow_texts.specs.declared.words.PrimitiveTy.TheVariants.{Null as null, Bool as bool, Int as int, Float as float, String as string, Path as path}
use Rattle.narrow_texts.specs.declared.words.NarrowPredicate.{NarrowPredicate}
use Rattle.narrow_texts.specs.declared.words.NarrowPredicate.TheVariants.{IsType, IsNotType, HasField, NotHasField, IsAttrSet, IsList, IsFunction, IsNumber}

-- "type 0 Null, 1 Bool, 2 Int, 3 Float, 4 String, 5 Path"
unfoldable pub type_number : PrimitiveTy → ℕ
type_number null = types.Null
type_number bool = types.Bool
type_number int = types.Int
type_number float = types.Float
type_number string = types.String
type_number path = types.Path

-- "sort 4 (0 IsType, 1 IsNotType, 2 HasField, 3 NotHasField, 4 IsAttrSet, 5 IsList, 6 IsFunction), value 14 (type ..; or the key's text; else 0)", document
-- 02, order 5: "sort 7, IsNumber .., value 0"
unfoldable pub sort_and_value : NarrowPredicate → ℕ × ℕ
sort_and_value (IsType prim) = (sorts.IsType, type_number prim)
sort_and_value (IsNotType prim) = (sorts.IsNotType, type_number prim)
sort_and_value (HasField key) = (sorts.HasField, key)
sort_and_value (NotHasField key) = (sorts.NotHasField, key)
sort_and_value IsAttrSet = (sorts.IsAttrSet, 0)
sort_and_value IsList = (sorts.IsList, 0)
sort_and_value IsFunction = (sorts.IsFunction, 0)
sort_and_value IsNumber = (sorts.IsNumber, 0)

-- the type of a sort; a list, a set and a function have none
unfoldable pub primitive : Option Sort → Option PrimitiveTy
primitive None = None
primitive (Some Null) = Some null
primitive (Some Bool') = Some bool
primitive (Some Int) = Some int
primitive (Some Float) = Some float
primitive (Some String) = Some string
primitive (Some Path) = Some path
primitive (Some List') = None
primitive (Some Set) = None
primitive (Some Function) = None

-- what is told of a name that passes a test (true), that fails it (false)
unfoldable pub predicate_for : Test → Bool → NarrowPredicate
predicate_for (is Null) b = cond b (IsType null) (IsNotType null)
predicate_for (is Bool') b = cond b (IsType bool) (IsNotType bool)
predicate_for (is Int) b = cond b (IsType int) (IsNotType int)
predicate_for (is Float) b = cond b (IsType float) (IsNotType float)
predicate_for (is String) b = cond b (IsType string) (IsNotType string)
predicate_for (is Path) b = cond b (IsType path) (IsNotType path)
predicate_for (is List') b = IsList
predicate_for (is Set) b = IsAttrSet
predicate_for (is Function) b = IsFunction
predicate_for numeric b = IsNumber
predicate_for (has k) b = cond b (HasField k) (NotHasField k)

unfoldable pub saying : Bool → Option Test → Option NarrowPredicate
saying b None = None
saying b (Some p) = Some (predicate_for p b)

-- of a predicate by the sort that it tests for
unfoldable pub passing : Option Sort → Option NarrowPredicate
passing o = saying true (o >>= λ s. Some (is s))
