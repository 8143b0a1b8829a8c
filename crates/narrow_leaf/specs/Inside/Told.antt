-- What one node of the analysis tells, as the code hands it on: a name, and what is told of it in each branch.
use Rattle.std.specs.Prelude.{ℕ, ◌+◌, ◌*◌, ◌^◌, true, false, List, [], ◌∷◌, Option, Some, None}
use Rattle.semantics.specs.Codes.{bits}
use Rattle.semantics.specs.Base.{or_else}
use Rattle.semantics.specs.Tree.{Tree}
use Rattle.semantics.specs.Words.{Sort}
use Rattle.semantics.specs.Resolution.{Tables}
use Rattle.semantics.specs.Narrow.{Test, has, Narrowing, coded, literal_tells, test_tells, local_name, tests, literal_comparison}
use Rattle.semantics.specs.Narrow.{Condition, equal, not_equal, and, or, implies, call, has_key, invert, opaque}
use Rattle.narrow_texts.specs.declared.words.PrimitiveTy.{PrimitiveTy}
use Rattle.narrow_texts.specs.declared.words.PrimitiveTy.TheVariants.{Null, Bool, Int, Float, String, Path}
use Rattle.narrow_texts.specs.declared.words.NarrowPredicate.{NarrowPredicate}
use Rattle.narrow_texts.specs.declared.words.NarrowPredicate.TheVariants.{IsType, IsNotType, HasField, NotHasField, IsAttrSet, IsList, IsFunction, IsNumber}
use Rattle.narrow_texts.specs.Inside.Predicates.{sort_and_value, primitive, saying}
use Rattle.narrow_leaf.specs.declared.told.NarrowInfo.{NarrowInfo}

-- a record as a number: "name 14, sort 4, value 14"
unfoldable pub record_number : Narrowing → ℕ
record_number r = ((coded r).0 * 2 ^ bits.sort + (coded r).1) * 2 ^ bits.number + (coded r).2

-- the records, as numbers, of a name of which this is told: "name 14, sort 4, value 14"
unfoldable pub said : ℕ → Option NarrowPredicate → List ℕ
said name None = []
said name (Some p) = ((name * 2 ^ bits.sort + (sort_and_value p).0) * 2 ^ bits.number + (sort_and_value p).1) ∷ []

abbrev pub tells : ℕ → Option NarrowPredicate → Option NarrowPredicate → NarrowInfo
tells name holds fails = record { name = name; then_branch = holds; else_branch = fails }

abbrev pub nothing_told : NarrowInfo
nothing_told = tells 0 None None

-- the same with the outcomes exchanged
unfoldable pub turned : NarrowInfo → NarrowInfo
turned r = tells r.name r.else_branch r.then_branch

-- by a literal that a name was compared with
unfoldable pub compared_tells : Option (ℕ × Sort) → NarrowInfo
compared_tells None = nothing_told
compared_tells (Some p) = tells p.0 (saying true (literal_tells true p.1)) (saying false (literal_tells false p.1))

-- by a test that a name was put to
unfoldable pub tested_tells : Option ℕ → Option Test → NarrowInfo
tested_tells None o = nothing_told
tested_tells (Some n) None = nothing_told
tested_tells (Some n) (Some p) = tells n (saying true (test_tells true p)) (saying false (test_tells false p))

-- by a node without parts that are analysed
module _ (t : Tree) (tab : Tables) where
  unfoldable pub compared_told : ℕ → ℕ → NarrowInfo
  compared_told l r = compared_tells (or_else (literal_comparison t tab l r) (literal_comparison t tab r l))

  unfoldable pub told : Condition → NarrowInfo
  told (equal l r) = compared_told l r
  told (not_equal l r) = turned (compared_told l r)
  told (and l r) = nothing_told
  told (or l r) = nothing_told
  told (implies l r) = nothing_told
  told (call f a) = tested_tells (local_name t tab a) (tests t tab f)
  told (has_key e k) = tested_tells (local_name t tab e) (Some (has k))
  told (invert e) = nothing_told
  told opaque = nothing_told

-- The same by the cases of the code: what a predicate that fails tells, a type that a name is equal to or unequal to, a predicate and a literal.
unfoldable pub else_of : NarrowPredicate → Option NarrowPredicate
else_of (IsType prim) = Some (IsNotType prim)
else_of (IsNotType prim) = None
else_of (HasField key) = Some (NotHasField key)
else_of (NotHasField key) = None
else_of IsAttrSet = None
else_of IsList = None
else_of IsFunction = None
else_of IsNumber = None

unfoldable pub equal_of : PrimitiveTy → NarrowPredicate
equal_of Null = IsType Null
equal_of Bool = IsType Bool
equal_of Int = IsNumber
equal_of Float = IsNumber
equal_of String = IsType String
equal_of Path = IsType Path

unfoldable pub unequal_of : PrimitiveTy → Option NarrowPredicate
unequal_of Null = Some (IsNotType Null)
unequal_of Bool = None
unequal_of Int = None
unequal_of Float = None
unequal_of String = None
unequal_of Path = None

unfoldable pub predicate_told : ℕ → NarrowPredicate → NarrowInfo
predicate_told name p = tells name (Some p) (else_of p)

unfoldable pub literal_told : ℕ → PrimitiveTy → NarrowInfo
literal_told name prim = tells name (Some (equal_of prim)) (unequal_of prim)

-- a name with the type of what it is compared with
unfoldable pub typed : ℕ → Option PrimitiveTy → Option (PrimitiveTy × ℕ)
typed name (Some prim) = Some (prim, name)
typed name None = None

unfoldable pub comparison : Option (ℕ × Sort) → Option (PrimitiveTy × ℕ)
comparison None = None
comparison (Some p) = typed p.0 (primitive (Some p.1))
