-- What narrowings are made of: sorts, tests and what they tell; and that the analysis makes only what a test can tell.
use Rattle.std.specs.Prelude.{Option, Some, None}
use mathlib.Core.Path.{◌≡◌, refl, subst}
use mathlib.Core.Bool.{Bool, true, false, not}
use mathlib.Core.Logic.{◌⊎◌, inl, inr, ⊎_elim}
use mathlib.Core.List.{List}
use Prim.Native.Nat.{ℕ, zero, suc}
use Rattle.semantics.specs.Base.{only, or_else, listed, All, ◌>>=◌}
use Rattle.semantics.specs.Tree.{Tree}
use Rattle.semantics.specs.Words.{Sort, Null, Bool', Int, Float, String, Path, List', Set, Function, sort_number, same_sort}
use Rattle.semantics.specs.Resolution.{Tables}
use Rattle.semantics.specs.Narrow.{Test, is, numeric, has, Narrowing, Condition, equal, not_equal, and, or, implies, call, has_key, invert, opaque, shape}
use Rattle.semantics.specs.Narrow.{singleton, compound, literal_tells, test_tells, narrowing, local_name, tests, literal_comparison, compared, node}
use Rattle.semantics.specs.Narrow.{analyze_in, analyze, Tellable, AllTellable}
use Rattle.semantics.proofs.BaseLaws.{true≢false, clash, some_inj, only-some, after, All-++, All-found, All-at}

-- Sorts.
pub same_sort-refl : (s : Sort) → same_sort s s ≡ true
unfolding same_sort sort_number
same_sort-refl Null = refl
same_sort-refl Bool' = refl
same_sort-refl Int = refl
same_sort-refl Float = refl
same_sort-refl String = refl
same_sort-refl Path = refl
same_sort-refl List' = refl
same_sort-refl Set = refl
same_sort-refl Function = refl

-- a sort is Null, or it is not
null-or : (s : Sort) → (s ≡ Null) ⊎ (same_sort s Null ≡ false)
unfolding same_sort sort_number
null-or Null = inl refl
null-or Bool' = inr refl
null-or Int = inr refl
null-or Float = inr refl
null-or String = inr refl
null-or Path = inr refl
null-or List' = inr refl
null-or Set = inr refl
null-or Function = inr refl

pub null_is : (s : Sort) → singleton s ≡ true → s ≡ Null
unfolding singleton
null_is s h = ⊎_elim (λ e. e) (λ k. absurd (true≢false h k)) (null-or s)

pub not_null : (s : Sort) → (s ≡ Null → ⊥) → same_sort s Null ≡ false
not_null s h = ⊎_elim (λ e. absurd (h e)) (λ k. k) (null-or s)

-- what holds of the narrowing by what was told holds of the list of it
pub narrowing-all : (P : Narrowing → Type 0) (b : Bool) (n : ℕ) (told : Option Test) →
    ((p : Test) → told ≡ Some p → P (record { name = n; test = p; passes = b })) → All P (narrowing b n told)
unfolding narrowing listed ◌>>=◌
narrowing-all P b n None h = tt
narrowing-all P b n (Some p) h = (h p refl, tt)

-- a test tells of itself
pub test-told : (b : Bool) (p q : Test) → test_tells b p ≡ Some q → p ≡ q
unfolding test_tells
test-told true p q h = some_inj h
test-told false (is s) q h = only-some _ h λ x e. e
test-told false numeric q h = absurd (clash h)
test-told false (has k) q h = some_inj h

-- what a test or a literal tells, that test can tell
test_tellable : (b : Bool) (p q : Test) → test_tells b p ≡ Some q → test_tells b q ≡ Some q
test_tellable b p q h = subst (λ z. test_tells b z ≡ Some q) (test-told b p q h) h

null-tells : test_tells false (is Null) ≡ Some (is Null)
unfolding test_tells compound same_sort sort_number only
null-tells = refl

true-tells : (q : Test) → test_tells true q ≡ Some q
unfolding test_tells
true-tells q = refl

literal_tellable : (b : Bool) (s : Sort) (q : Test) → literal_tells b s ≡ Some q → test_tells b q ≡ Some q
unfolding literal_tells
literal_tellable true s q h = true-tells q
literal_tellable false s q h =
    only-some (singleton s) h λ x e. subst (λ z. test_tells false z ≡ Some z) (subst (λ z. is z ≡ q) (null_is s x) e) null-tells

module _ (t : Tree) (tab : Tables) where
  compared_tellable : (b : Bool) (l r : ℕ) → All Tellable (compared t tab b l r)
  unfolding compared
  compared_tellable b l r =
      All-found Tellable _ λ ns hns.
      after (or_else (literal_comparison t tab l r) (literal_comparison t tab r l)) _ hns λ p hp h.
      subst (All Tellable) (some_inj h) (narrowing-all Tellable b p.0 (literal_tells b p.1) (literal_tellable b p.1))

  node_tellable : (below : Bool → ℕ → List Narrowing) → ((b : Bool) (c : ℕ) → All Tellable (below b c)) → (b : Bool) (s : Condition) →
      All Tellable (node t tab below b s)
  unfolding node
  node_tellable below ih b (equal l r) = compared_tellable b l r
  node_tellable below ih b (not_equal l r) = compared_tellable (not b) l r
  node_tellable below ih true (and l r) = All-++ Tellable (below true l) (below true r) (ih true l) (ih true r)
  node_tellable below ih false (and l r) = tt
  node_tellable below ih true (or l r) = tt
  node_tellable below ih false (or l r) = All-++ Tellable (below false l) (below false r) (ih false l) (ih false r)
  node_tellable below ih true (implies l r) = tt
  node_tellable below ih false (implies l r) = All-++ Tellable (below true l) (below false r) (ih true l) (ih false r)
  node_tellable below ih b (call f a) =
      All-found Tellable _ λ ns hns.
      after (local_name t tab a) _ hns λ n hn h₁.
      after (tests t tab f) _ h₁ λ p hp h₂.
      subst (All Tellable) (some_inj h₂) (narrowing-all Tellable b n (test_tells b p) (test_tellable b p))
  node_tellable below ih b (has_key e k) =
      All-found Tellable _ λ ns hns.
      after (local_name t tab e) _ hns λ n hn h₁.
      subst (All Tellable) (some_inj h₁) (narrowing-all Tellable b n (test_tells b (has k)) (test_tellable b (has k)))
  node_tellable below ih b (invert e) = ih (not b) e
  node_tellable below ih b opaque = tt

  in_tellable : (k : ℕ) (b : Bool) (c : ℕ) → All Tellable (analyze_in t tab k b c)
  unfolding analyze_in
  in_tellable zero b c = tt
  in_tellable (suc k) b c = node_tellable (analyze_in t tab k) (in_tellable k) b (shape t c)

pub all_tellable : AllTellable
unfolding analyze
all_tellable t tab b c r h = All-at Tellable (analyze t tab b c) (in_tellable t tab (suc c) b c) h
