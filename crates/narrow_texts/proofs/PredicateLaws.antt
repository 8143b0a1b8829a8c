-- The numbers of `PrimitiveTy` and `NarrowPredicate` are those that the definitions write.
use mathlib.Core.Path.{◌≡◌, refl}
use mathlib.Core.Bool.{Bool, true, false}
use Prim.Native.Nat.{◌≤◌}
use native.Mathlib.Omega.{arith}
use Rattle.semantics.specs.Words.{Null, Bool', Int, Float, String, Path, List', Set, Function}
use Rattle.semantics.specs.Narrow.{Test, is, numeric, has, predicate_of}
use Rattle.narrow_texts.specs.declared.words.PrimitiveTy.{PrimitiveTy}
use Rattle.narrow_texts.specs.declared.words.PrimitiveTy.TheVariants.{Null as null, Bool as bool, Int as int, Float as float, String as string, Path as path}
use Rattle.narrow_texts.specs.declared.words.NarrowPredicate.{NarrowPredicate}
use Rattle.narrow_texts.specs.declared.words.NarrowPredicate.TheVariants.{IsType, IsNotType, HasField, NotHasField, IsAttrSet, IsList, IsFunction, IsNumber}
use Rattle.narrow_texts.specs.Inside.Predicates.{type_number, sort_and_value, predicate_for}

pub predicate-numbers : (p : Test) (b : Bool) → predicate_of p b ≡ sort_and_value (predicate_for p b)
unfolding predicate_of sort_and_value type_number predicate_for
predicate-numbers (is Null) true = refl
predicate-numbers (is Null) false = refl
predicate-numbers (is Bool') true = refl
predicate-numbers (is Bool') false = refl
predicate-numbers (is Int) true = refl
predicate-numbers (is Int) false = refl
predicate-numbers (is Float) true = refl
predicate-numbers (is Float) false = refl
predicate-numbers (is String) true = refl
predicate-numbers (is String) false = refl
predicate-numbers (is Path) true = refl
predicate-numbers (is Path) false = refl
predicate-numbers (is List') b = refl
predicate-numbers (is Set) b = refl
predicate-numbers (is Function) b = refl
predicate-numbers numeric b = refl
predicate-numbers (has k) true = refl
predicate-numbers (has k) false = refl

-- a type and a sort have at most so many numbers
pub type_few : (prim : PrimitiveTy) → type_number prim ≤ 5
unfolding type_number
type_few null = omega arith
type_few bool = omega arith
type_few int = omega arith
type_few float = omega arith
type_few string = omega arith
type_few path = omega arith

pub sort-few : (p : NarrowPredicate) → (sort_and_value p).0 ≤ 7
unfolding sort_and_value
sort-few (IsType prim) = omega arith
sort-few (IsNotType prim) = omega arith
sort-few (HasField key) = omega arith
sort-few (NotHasField key) = omega arith
sort-few IsAttrSet = omega arith
sort-few IsList = omega arith
sort-few IsFunction = omega arith
sort-few IsNumber = omega arith
