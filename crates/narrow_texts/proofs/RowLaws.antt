-- The constant tables: how many rows, and that a lookup in the rows is the definition's entry.
use Rattle.std.specs.Prelude.{Option, Some, None}
use Rattle.std.specs.Option.{MatchOption}
use mathlib.Core.Path.{◌≡◌, refl, ap, sym, ◌∙◌}
use mathlib.Core.Bool.{Bool, true, false, cond}
use mathlib.Core.List.{List, [], ◌∷◌, ◌++◌}
use Prim.Native.Nat.{ℕ}
use native.Mathlib.Omega.{arith}
use Rattle.semantics.specs.Base.{only, or_else, ◌>>=◌}
use Rattle.semantics.specs.Tree.{Text, same}
use Rattle.semantics.specs.Words.{Sort, type_predicates, compound_predicates, conditional_fn_names, entry, predicate}
use Rattle.narrow_texts.specs.declared.words.NarrowPredicate.{NarrowPredicate}
use Rattle.narrow_texts.specs.Inside.Predicates.{saying, passing}
use Rattle.narrow_texts.specs.Inside.Rows.{rows_by, paired_in, type_rows, compound_rows, conditional_rows, conditional_of}

-- what the rows pair with a text stands for the text's entry
paired_entry : {A B : Type 0} (g : Option A → B) (x : Text) (rows : List (Text × A)) → paired_in (g None) x (rows_by (λ a. g (Some a)) rows) ≡ g (entry x rows)
unfolding paired_in rows_by entry or_else only
paired_entry g x [] = refl
paired_entry g x (r ∷ rs) = go (same x r.0) (paired_entry g x rs)
  where
    go : (b : Bool) → paired_in (g None) x (rows_by (λ a. g (Some a)) rs) ≡ g (entry x rs)
        → cond b (g (Some r.1)) (paired_in (g None) x (rows_by (λ a. g (Some a)) rs)) ≡ g (or_else (only b r.1) (entry x rs))
    go true e = refl
    go false e = e

pub type_paired : (x : Text) → paired_in None x type_rows ≡ passing (entry x type_predicates)
unfolding type_rows passing saying ◌>>=◌
type_paired x = paired_entry passing x type_predicates

pub compound_paired : (x : Text) → paired_in None x compound_rows ≡ passing (entry x compound_predicates)
unfolding compound_rows passing saying ◌>>=◌
compound_paired x = paired_entry passing x compound_predicates

-- the entry of two tables is that of the first, else that of the second
entry-behind : {A : Type 0} (x : Text) (rows more : List (Text × A)) → entry x (rows ++ more) ≡ or_else (entry x rows) (entry x more)
unfolding entry or_else only
entry-behind x [] more = refl
entry-behind x (r ∷ rs) more = go (same x r.0) (entry-behind x rs more)
  where
    go : (b : Bool) → entry x (rs ++ more) ≡ or_else (entry x rs) (entry x more)
        → or_else (only b r.1) (entry x (rs ++ more)) ≡ or_else (or_else (only b r.1) (entry x rs)) (entry x more)
    go true e = refl
    go false e = e

in_first : (o more : Option Sort) {p : NarrowPredicate} → passing o ≡ Some p → Some p ≡ passing (or_else o more)
unfolding passing saying or_else ◌>>=◌
in_first None more h = absurd (let z : ◌≡◌ {A = ℕ} 0 1 = cc in omega arith)
in_first (Some s) more h = sym h

in_second : (o more : Option Sort) → passing o ≡ None → passing more ≡ passing (or_else o more)
unfolding passing saying or_else ◌>>=◌
in_second None more h = refl
in_second (Some s) more h = absurd (let z : ◌≡◌ {A = ℕ} 0 1 = cc in omega arith)

pub of_types : (x : Text) {p : NarrowPredicate} → passing (entry x type_predicates) ≡ Some p → Some p ≡ passing (predicate x)
unfolding predicate
of_types x h = in_first _ _ h ∙ ap passing (sym (entry-behind x type_predicates compound_predicates))

pub of_compounds : (x : Text) → passing (entry x type_predicates) ≡ None → passing (entry x compound_predicates) ≡ passing (predicate x)
unfolding predicate
of_compounds x h = in_second _ _ h ∙ ap passing (sym (entry-behind x type_predicates compound_predicates))

-- what the second table pairs with a text counts where the first has no row for it
pub in_either : (x : Text) (first : Option NarrowPredicate) {r : Option NarrowPredicate} {P : Type 0} → first ≡ passing (entry x type_predicates)
    → MatchOption first P (λ p. r ≡ Some p) → (P → r ≡ passing (entry x compound_predicates)) → r ≡ passing (predicate x)
in_either x None f m go = go m ∙ of_compounds x (sym f)
in_either x (Some p) f m go = m ∙ of_types x (sym f)

pub conditional_paired : (x : Text) → paired_in None x conditional_rows ≡ conditional_of (entry x conditional_fn_names)
unfolding conditional_rows conditional_of
conditional_paired x = paired_entry conditional_of x conditional_fn_names
