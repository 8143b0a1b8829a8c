-- Two texts compared from the back: what the count says in document 02's words, and the loops of the code.
use mathlib.Core.Path.{◌≡◌, refl, ap, sym, subst, ◌∙◌}
use mathlib.Core.Bool.{Bool, true, false}
use mathlib.Core.List.{[], ◌∷◌, ◌++◌, reverse, reverse-append}
use Prim.Native.Nat.{ℕ, zero, suc, ◌+◌, ◌-◌, ◌≤◌, ◌<◌}
use native.Mathlib.Nat.{zero-add, add-zero}
use native.Mathlib.Omega.{arith}
use native.Mathlib.Decide.{dec_lt}
use lib.ListN.{length, get_or, take, drop, take-append-drop, length-append, length-drop, length-reverse}
use lib.Seq.{take-suc, drop-cons, drop-length, length-take-le}
use borrow.Author.Tests.{eq-eqb, ne_eqb}
use Rattle.semantics.specs.Tree.{Text, same}
use Rattle.semantics.proofs.BaseLaws.{same-equal, same_refl, length_differs}
use Rattle.texts.specs.Pairs.{until_differs, pairs_looked, comparison}
use Rattle.texts.specs.Inside.Ends.{Alike, Left}

-- pairs that are the same are counted, and what follows
until_common : (s p q : Text) → until_differs (s ++ p) (s ++ q) ≡ length s + until_differs p q
unfolding until_differs
until_common [] p q = sym (zero-add (until_differs p q))
until_common (x ∷ s) p q = rw (eq-eqb x x refl) (omega (arith, until_common s p q))

pub until_level : (x y : ℕ) (p q : Text) → x ≡ y → until_differs (x ∷ p) (y ∷ q) ≡ 1 + until_differs p q
unfolding until_differs
until_level x y p q e = rw (eq-eqb x y e) refl

pub until_differs_lem : (x y : ℕ) (p q : Text) → (x ≡ y → ⊥) → until_differs (x ∷ p) (y ∷ q) ≡ 1
unfolding until_differs
until_differs_lem x y p q n = rw (ne_eqb x y n) refl

-- "none where lengths differ"
pub looked_none : (a b : Text) → (length a ≡ length b → ⊥) → pairs_looked a b ≡ 0
unfolding pairs_looked
looked_none a b n = rw (ne_eqb (length a) (length b) n) refl

pub looked_level : (a b : Text) → length a ≡ length b → pairs_looked a b ≡ until_differs (reverse a) (reverse b)
unfolding pairs_looked
looked_level a b e = rw (eq-eqb (length a) (length b) e) refl

-- what two texts have in common at their ends is counted
looked_end : (p q s : Text) → length p ≡ length q → pairs_looked (p ++ s) (q ++ s) ≡ length s + until_differs (reverse p) (reverse q)
looked_end p q s e =
    looked_level (p ++ s) (q ++ s) (omega (arith, length-append p s, length-append q s))
    ∙ rw (reverse-append p s, reverse-append q s) (until_common (reverse s) (reverse p) (reverse q))
    ∙ ap (λ n. n + until_differs (reverse p) (reverse q)) (length-reverse s)

-- "all where the texts are equal"
pub looked_all : (a : Text) → pairs_looked a a ≡ length a
unfolding until_differs
looked_all a = looked_end [] [] a refl ∙ add-zero (length a)

-- "otherwise those from the end up to and with the first that differs"
pub looked_until : (p q s : Text) (x y : ℕ) → length p ≡ length q → (x ≡ y → ⊥) → pairs_looked ((p ++ (x ∷ [])) ++ s) ((q ++ (y ∷ [])) ++ s) ≡ length s + 1
looked_until p q s x y e n =
    looked_end (p ++ (x ∷ [])) (q ++ (y ∷ [])) s (omega (arith, length-append p (x ∷ []), length-append q (y ∷ [])))
    ∙ ap (λ k. length s + k) (rw (reverse-append p (x ∷ []), reverse-append q (y ∷ [])) (until_differs_lem x y (reverse p) (reverse q) n))

-- what is left when all is still to be compared
pub left-start : (a b : Text) → length a ≡ length b → Left a b (length a)
left-start a b e = record { inside = omega arith; ends = drop-length a ∙ sym (subst (λ n. drop n b ≡ []) (sym e) (drop-length b)) }

-- the loop over a run: no byte, and one more that is the same
pub alike_none : (a b : Text) (i : ℕ) → Alike a b i 0
alike_none a b i = record { same_at = λ k l. absurd (omega (arith, l)) }

pub alike_more : {a b : Text} {i n : ℕ} → Alike a b i n → get_or a (i + n) 0 ≡ get_or b (i + n) 0 → Alike a b i (n + 1)
alike_more {a} {b} {i} {n} h e = record { same_at = at }
  where
    at : (k : ℕ) → k < n + 1 → get_or a (i + k) 0 ≡ get_or b (i + k) 0
    at k l = elim (dec_lt k n) [ yes m ↦ h.same_at k m | no m ↦ subst (λ z. get_or a (i + z) 0 ≡ get_or b (i + z) 0) {x = n} {y = k} (omega (arith, l, m)) e ]

module _ {a b : Text} (e : length a ≡ length b) where
  -- one byte more, and n more, that are the same
  left_one : (i : ℕ) → i < length a → get_or a i 0 ≡ get_or b i 0 → Left a b (suc i) → Left a b i
  left_one i l h g = record { inside = omega arith; ends = drop-cons a i 0 l ∙ level ∙ sym (drop-cons b i 0 (omega arith)) }
    where
      level : get_or a i 0 ∷ drop (suc i) a ≡ get_or b i 0 ∷ drop (suc i) b
      level = let t : drop (suc i) a ≡ drop (suc i) b = g.ends in cc

  left-alike : (i n : ℕ) → i + n ≤ length a → Alike a b i n → Left a b (i + n) → Left a b i
  left-alike i zero l h g = subst (Left a b) (add-zero i) g
  left-alike i (suc n) l h g =
      left-alike i n (omega arith) (record { same_at = λ k o. h.same_at k (omega arith) })
      (left_one (i + n) (omega arith) (h.same_at n (omega arith)) (subst (Left a b) (omega arith) g))

  module _ {i : ℕ} (g : Left a b i) where
    pub left_back : (n : ℕ) → n ≤ i → Alike a b (i - n) n → Left a b (i - n)
    left_back n l h = left-alike (i - n) n (omega (arith, g.inside)) h (subst (Left a b) (omega arith) g)

    -- a pair that differs ends it
    pub stops : 0 < i → (get_or a (i - 1) 0 ≡ get_or b (i - 1) 0 → ⊥) → record { same = false; looked = length a - (i - 1) } ≡ comparison a b
    stops l n = let p : false ≡ same a b = other (same a b) refl in let q : length a - (i - 1) ≡ pairs_looked a b = sym count in cc
      where
        other : (t : Bool) → same a b ≡ t → false ≡ t
        other true h = absurd (n (ap (λ c. get_or c (i - 1) 0) (same-equal a b h)))
        other false h = refl

        cut : (c : Text) → i ≤ length c → (take (i - 1) c ++ (get_or c (i - 1) 0 ∷ [])) ++ drop i c ≡ c
        cut c m =
            let k : suc (i - 1) ≡ i = omega arith in
            ap (λ z. z ++ drop i c) (sym (take-suc c (i - 1) 0 (omega arith)) ∙ ap (λ z. take z c) k) ∙ take-append-drop i c

        count : pairs_looked a b ≡ length a - (i - 1)
        count =
            ap (λ z. pairs_looked z b) (sym (cut a g.inside))
            ∙ ap (pairs_looked ((take (i - 1) a ++ (get_or a (i - 1) 0 ∷ [])) ++ drop i a)) (sym (rw g.ends (cut b (omega (arith, g.inside)))))
            ∙ looked_until (take (i - 1) a) (take (i - 1) b) (drop i a) (get_or a (i - 1) 0) (get_or b (i - 1) 0)
            (length-take-le (i - 1) a (omega (arith, g.inside)) ∙ sym (length-take-le (i - 1) b (omega (arith, g.inside)))) n
            ∙ omega (arith, length-drop i a, g.inside)

    -- and where none does, the texts are the same
    pub done : i ≤ 0 → record { same = true; looked = length a } ≡ comparison a b
    done l = let p : true ≡ same a b = sym whole in let q : length a ≡ pairs_looked a b = sym count in cc
      where
        equal : a ≡ b
        equal = subst (λ n. drop n a ≡ drop n b) {x = i} {y = 0} (omega arith) g.ends

        whole : same a b ≡ true
        whole = subst (λ c. same a c ≡ true) equal (same_refl a)

        count : pairs_looked a b ≡ length a
        count = subst (λ c. pairs_looked a c ≡ length a) equal (looked_all a)

-- texts of other lengths are not the same, and no pair is looked at
pub lengths_differ : (a b : Text) → (length a ≡ length b → ⊥) → record { same = false; looked = 0 } ≡ comparison a b
lengths_differ a b n = let p : false ≡ same a b = sym (length_differs a b n) in let q : 0 ≡ pairs_looked a b = sym (looked_none a b n) in cc
