-- The constant tables of names, with what each name is paired with in the code.
use Rattle.std.specs.Prelude.{cond, List, [], ◌∷◌, map, Option, Some, None, find, option_map}
use Rattle.narrow_texts.specs.declared.words.Row.{Row}
use Rattle.narrow_texts.specs.declared.words.NarrowPredicate.{NarrowPredicate}
use Rattle.semantics.specs.Tree.{Text, same}
use Rattle.semantics.specs.Words.{type_predicates, compound_predicates}
use Rattle.semantics.specs.Words.{ConditionalFn, OptionalString, OptionalAttrs, Optional, MkIf, conditional_fn_names}
use Rattle.narrow_texts.specs.declared.words.ConditionalFn.{ConditionalFn as Recognised}
use Rattle.narrow_texts.specs.declared.words.ConditionalFn.TheVariants.{OptionalString as optional_string, OptionalAttrs as optional_attrs, Optional as optional, MkIf as mk_if}
use Rattle.narrow_texts.specs.Inside.Predicates.{passing}

-- the case of the code for each answer of `detect_conditional_fn`
unfoldable pub conditional_of : Option ConditionalFn → Option Recognised
conditional_of None = None
conditional_of (Some OptionalString) = Some optional_string
conditional_of (Some OptionalAttrs) = Some optional_attrs
conditional_of (Some Optional) = Some optional
conditional_of (Some MkIf) = Some mk_if

-- a table's rows, each with what stands for its entry in the code
unfoldable pub rows_by : {A B : Type 0} → (A → B) → List (Text × A) → List (Text × B)
rows_by f rows = map (λ r. (r.0, f r.1)) rows

-- what a table of the code pairs with a text
unfoldable pub answer_in : {A : Type 0} → Text → List (Row A) → Option A
answer_in x rows = option_map (λ row. row.answer) (find (λ row. same x row.name.now) rows)

-- what a table pairs with a text
unfoldable pub paired_in : {A : Type 0} → A → Text → List (Text × A) → A
paired_in other x [] = other
paired_in other x (r ∷ rs) = cond (same x r.0) r.1 (paired_in other x rs)

-- `TYPE_PREDICATES`
unfoldable pub type_rows : List (Text × Option NarrowPredicate)
type_rows = rows_by (λ s. passing (Some s)) type_predicates

-- `COMPOUND_PREDICATES`
unfoldable pub compound_rows : List (Text × Option NarrowPredicate)
compound_rows = rows_by (λ s. passing (Some s)) compound_predicates

-- `CONDITIONAL_FN_NAMES`
unfoldable pub conditional_rows : List (Text × Option Recognised)
conditional_rows = rows_by (λ h. conditional_of (Some h)) conditional_fn_names
