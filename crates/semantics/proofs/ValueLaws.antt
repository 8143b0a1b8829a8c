-- What is said of values, by cases (specs/ValueFacts.antt).
use Rattle.std.specs.Prelude.{Some}
use mathlib.Core.Path.{◌≡◌, refl, sym, ap, subst, ◌∙◌}
use mathlib.Core.Bool.{Bool, true, false, not}
use mathlib.Core.Logic.{◌⊎◌, ◌↔◌, inl, inr}
use mathlib.Core.List.Memᴰ
use mathlib.Core.List.{List, [], ◌∷◌, ◌++◌}
use Prim.Native.Nat.{ℕ}
use borrow.Author.Tests.{eqb-true}
use Rattle.semantics.specs.Codes.{types}
use Rattle.semantics.specs.Base.{pick, only, listed, keep, empty, ◌∈◌}
use Rattle.semantics.specs.Tree.{Text, same, text_at}
use Rattle.semantics.specs.Words.{Sort, Null, Bool', Int, Float, String, Path, List', Set, Function, sort_number, same_sort, number}
use Rattle.semantics.specs.Values.{Value, null, integer, float, string, path, list, function, bool, set, builtin, sort, holds, outcome, passed}
use Rattle.semantics.specs.ValueFacts.{Sorted, Holding, ValuesMean}
use Rattle.semantics.proofs.BaseLaws.{true≢false, clash, some_inj}
use Rattle.semantics.proofs.NarrowLaws.{same_sort-refl}
use Rattle.semantics.proofs.Compute.{computed}

sorted : Sorted
unfolding sort
sorted = (refl, (λ b. refl), refl, refl, refl, refl, refl, (λ ks. refl), refl, λ β. refl)

-- a sort by its number
sort_of : ℕ → Sort
sort_of n =
    pick n
    ((types.Null, Null) ∷ (types.Bool, Bool') ∷ (types.Int, Int) ∷ (types.Float, Float) ∷ (types.String, String) ∷ (types.Path, Path) ∷ (types.List, List')
    ∷ (types.AttrSet, Set) ∷ [])
    Function

back : (s : Sort) → sort_of (sort_number s) ≡ s
unfolding sort_of sort_number pick
back Null = refl
back Bool' = refl
back Int = refl
back Float = refl
back String = refl
back Path = refl
back List' = refl
back Set = refl
back Function = refl

same-sort : (a b : Sort) → same_sort a b ≡ true → a ≡ b
unfolding same_sort
same-sort a b h = sym (back a) ∙ ap sort_of (eqb-true (sort_number a) (sort_number b) h) ∙ back b

numbers : (s : Sort) → number s ≡ true ↔ ((s ≡ Int) ⊎ (s ≡ Float))
unfolding computed
numbers s = (there s, λ h. back_again s h)
  where
    there : (s : Sort) → number s ≡ true → (s ≡ Int) ⊎ (s ≡ Float)
    there Null h = absurd (true≢false h refl)
    there Bool' h = absurd (true≢false h refl)
    there Int h = inl refl
    there Float h = inr refl
    there String h = absurd (true≢false h refl)
    there Path h = absurd (true≢false h refl)
    there List' h = absurd (true≢false h refl)
    there Set h = absurd (true≢false h refl)
    there Function h = absurd (true≢false h refl)

    back_again : (s : Sort) → (s ≡ Int) ⊎ (s ≡ Float) → number s ≡ true
    back_again s (inl h) = subst (λ z. number z ≡ true) (sym h) refl
    back_again s (inr h) = subst (λ z. number z ≡ true) (sym h) refl

-- something is kept of a list if an element of it passes
module _ (p : Text → Bool) where
  kept : (l : List Text) → not (empty (keep p l)) ≡ true → (y : Text) × (y ∈ l) × (p y ≡ true)
  unfolding keep empty listed only
  kept [] h = absurd (true≢false h refl)
  kept (x ∷ l) h = go (p x) refl (kept l) h
    where
      go : (b : Bool) → p x ≡ b → (not (empty (keep p l)) ≡ true → (y : Text) × (y ∈ l) × (p y ≡ true))
          → not (empty (listed (only b x) ++ keep p l)) ≡ true → (y : Text) × (y ∈ (x ∷ l)) × (p y ≡ true)
      go true e ih h' = (x, Memᴰ.head refl, e)
      go false e ih h' = let r : (y : Text) × (y ∈ l) × (p y ≡ true) = ih h' in (r.0, Memᴰ.tail r.1, r.2)

  keeps : (l : List Text) (y : Text) → y ∈ l → p y ≡ true → not (empty (keep p l)) ≡ true
  unfolding keep empty listed only
  keeps [] y i h = elim i [ ]
  keeps (x ∷ l) y (Memᴰ.head e) h = rw (subst (λ z. p z ≡ true) e h)
  keeps (x ∷ l) y (Memᴰ.tail i) h = go (p x) (keeps l y i h)
    where
      go : (b : Bool) → not (empty (keep p l)) ≡ true → not (empty (listed (only b x) ++ keep p l)) ≡ true
      go true ih = refl
      go false ih = ih

holding : (x : Text) (v : Value) → holds x v ≡ true → Holding x v
unfolding holds
holding x null h = absurd (true≢false h refl)
holding x (bool b) h = absurd (true≢false h refl)
holding x integer h = absurd (true≢false h refl)
holding x float h = absurd (true≢false h refl)
holding x string h = absurd (true≢false h refl)
holding x path h = absurd (true≢false h refl)
holding x list h = absurd (true≢false h refl)
holding x (set ks) h = let r : (y : Text) × (y ∈ ks) × (same x y ≡ true) = kept (same x) ks h in (ks, r.0, refl, r.1, r.2)
holding x function h = absurd (true≢false h refl)
holding x (builtin β) h = absurd (true≢false h refl)

held : (x : Text) (v : Value) → Holding x v → holds x v ≡ true
unfolding holds
held x v h = subst (λ z. holds x z ≡ true) (sym h.2) (keeps (same x) h.0 h.1 h.3 h.4)

outcomes : (v : Value) (b : Bool) → outcome v ≡ Some b → v ≡ bool b
unfolding outcome
outcomes null b h = absurd (clash h)
outcomes (bool c) b h = ap bool (some_inj h)
outcomes integer b h = absurd (clash h)
outcomes float b h = absurd (clash h)
outcomes string b h = absurd (clash h)
outcomes path b h = absurd (clash h)
outcomes list b h = absurd (clash h)
outcomes (set ks) b h = absurd (clash h)
outcomes function b h = absurd (clash h)
outcomes (builtin β) b h = absurd (clash h)

pub values_mean : ValuesMean
unfolding outcome passed
values_mean = record {
  sorts = sorted;
  numbers = numbers;
  holding = λ x v. (holding x v, held x v);
  outcomes = λ v b. (outcomes v b, λ h. subst (λ z. outcome z ≡ Some b) (sym h) refl);
  of_sort = λ t s v. (same-sort (sort v) s, λ h. subst (λ z. same_sort (sort v) z ≡ true) h (same_sort-refl (sort v)));
  of_number = λ t v. numbers (sort v);
  of_key = λ t k v. (holding (text_at t k) v, held (text_at t k) v);
  failing = λ t m r h w. clash (sym h ∙ w.1);
  valued = λ t m r v h. ((λ w. subst (λ z. passed t r.test z ≡ r.passes) (some_inj (sym w.1 ∙ h)) w.2), λ p. (v, h, p));
  thens = λ m c. ((λ h. h), λ h. h);
  elses = λ m c. ((λ h. h), λ h. h);
}
