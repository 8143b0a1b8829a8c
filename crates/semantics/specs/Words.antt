-- The constant tables of nameres.rs and narrow.rs, and the sorts of a value.
use Rattle.std.specs.Prelude.{Bool, ◌||◌, List, [], ◌∷◌, ◌++◌, ℕ, eqb, Option, None}
use Rattle.semantics.specs.Codes.{types}
use Rattle.semantics.specs.Base.{only, or_else}
use Rattle.semantics.specs.Tree.{Text, bytes, same}

-- `GLOBAL_BUILTIN_NAMES`, in its order ("builtin (place 0 to 21 in `GLOBAL_BUILTIN_NAMES`)")
unfoldable pub globals : List Text
globals =
    bytes "abort" ∷ bytes "baseNameOf" ∷ bytes "builtins" ∷ bytes "derivation" ∷ bytes "dirOf" ∷ bytes "false"
    ∷ bytes "fetchGit" ∷ bytes "fetchMercurial" ∷ bytes "fetchTarball" ∷ bytes "fetchTree" ∷ bytes "fetchurl"
    ∷ bytes "fromTOML" ∷ bytes "import" ∷ bytes "isNull" ∷ bytes "map" ∷ bytes "null" ∷ bytes "placeholder"
    ∷ bytes "removeAttrs" ∷ bytes "scopedImport" ∷ bytes "throw" ∷ bytes "toString" ∷ bytes "true" ∷ []

-- The sorts of a value: "null, bool, integer, float, string, path, list, set with its keys, or function".
pub data Sort : Type 0 where
  Null Bool' Int Float String Path List' Set Function : Sort

-- the number of a sort
unfoldable pub sort_number : Sort → ℕ
sort_number Null = types.Null
sort_number Bool' = types.Bool
sort_number Int = types.Int
sort_number Float = types.Float
sort_number String = types.String
sort_number Path = types.Path
sort_number List' = types.List
sort_number Set = types.AttrSet
sort_number Function = types.Function

-- two sorts are one
unfoldable pub same_sort : Sort → Sort → Bool
same_sort a b = eqb (sort_number a) (sort_number b)

-- "two numbers", "an integer or a float": the sort of one
unfoldable pub number : Sort → Bool
number s = same_sort s Int || same_sort s Float

-- `TYPE_PREDICATES`
unfoldable pub type_predicates : List (Text × Sort)
type_predicates =
    (bytes "isNull", Null) ∷ (bytes "isString", String) ∷ (bytes "isInt", Int) ∷ (bytes "isFloat", Float) ∷ (bytes "isBool", Bool') ∷ (bytes "isPath", Path) ∷ []

-- `COMPOUND_PREDICATES`
unfoldable pub compound_predicates : List (Text × Sort)
compound_predicates = (bytes "isAttrs", Set) ∷ (bytes "isList", List') ∷ (bytes "isFunction", Function) ∷ []

-- `ConditionalFn`
pub data ConditionalFn : Type 0 where
  OptionalString OptionalAttrs Optional MkIf : ConditionalFn

-- `CONDITIONAL_FN_NAMES`
unfoldable pub conditional_fn_names : List (Text × ConditionalFn)
conditional_fn_names =
    (bytes "optionalString", OptionalString) ∷ (bytes "optionalAttrs", OptionalAttrs) ∷ (bytes "optional", Optional) ∷ (bytes "mkIf", MkIf) ∷ []

-- the entry of such a table under a text
unfoldable pub entry : {A : Type 0} → Text → List (Text × A) → Option A
entry x [] = None
entry x (r ∷ rs) = or_else (only (same x r.0) r.1) (entry x rs)

-- `is_predicate_name` and `narrow_info_for_predicate`: the sort that a predicate of this name tests for
unfoldable pub predicate : Text → Option Sort
predicate x = entry x (type_predicates ++ compound_predicates)
