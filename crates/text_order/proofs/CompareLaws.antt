-- The comparison of two texts: an order of all texts, and what the pair tells at which it stopped.
use mathlib.Core.Path.{◌≡◌, refl, ap, sym, subst, ◌∙◌}
use mathlib.Core.Bool.{true, false}
use mathlib.Core.List.{List, [], ◌∷◌, ◌++◌, reverse, reverse-reverse, reverse-cons, reverse-append}
use Prim.Native.Nat.{ℕ, zero, suc, ◌+◌, ◌-◌, ◌≤◌, ◌<◌}
use native.Mathlib.Omega.{arith}
use native.Mathlib.Decide.{ℕ_discrete}
use lib.ListN.{length, get_or, take, drop, length-reverse, length-drop}
use lib.Seq.{split_at, append_snoc, get_or_at}
use Rattle.std.specs.declared.cmp.Ordering.{Ordering}
use Rattle.std.specs.declared.cmp.Ordering.TheVariants.{Less, Equal, Greater}
use Rattle.std.specs.Ordering.{ordering_then, ordering_reverse, nat_cmp, is_ne}
use Rattle.std.specs.Cmp.{IsTotalOrder}
use Rattle.std.specs.Cmp.Lexicographic.{slice_cmp}
use Rattle.std.proofs.lemmas.Bool.Decides.{nat_tests}
use Rattle.std.proofs.lemmas.Cmp.{tied_itself, on_total, nat_list_cmp_total}
use Rattle.std.proofs.lemmas.Map.Lookups.{exact_bytes}
use Rattle.semantics.specs.Tree.{Text, same}
use Rattle.semantics.proofs.BaseLaws.{true≢false, same-equal, same_refl}
use Rattle.texts.specs.declared.Comparison.{Comparison}
use Rattle.texts.specs.Pairs.{until_differs, comparison}
use Rattle.texts.proofs.PairLaws.{until_level, until_differs_lem, looked_level}
use Rattle.text_order.specs.Inside.Order.{backwards, compared}

-- two numbers with the rest
decides : (x y : ℕ) (o : Ordering) → (x ≡ y → ⊥) → ordering_then (nat_cmp x y) o ≡ nat_cmp x y
decides x y o n = grind (arith, nat_tests)

level : (x y : ℕ) (o : Ordering) → x ≡ y → ordering_then (nat_cmp x y) o ≡ o
level x y o e = grind (arith, nat_tests)

-- the comparison is an order of all texts
total : IsTotalOrder compared
unfolding compared
total = on_total backwards nat_list_cmp_total

-- a text is told by its length and its bytes from the last on
backwards_inj : {a b : Text} → backwards a ≡ backwards b → a ≡ b
unfolding backwards
backwards_inj {a} {b} h = let r : reverse a ≡ reverse b = cc in sym (reverse-reverse a) ∙ ap reverse r ∙ reverse-reverse b

-- only the same bytes are equal
pub compared_same : (a b : Text) → compared a b ≡ Equal → a ≡ b
unfolding compared
compared_same a b h = backwards_inj (exact_bytes (backwards a) (backwards b) h)

-- what is behind another has the other before it
pub compared-turned : (a b : Text) → compared a b ≡ Greater → compared b a ≡ Less
compared-turned a b h = total.antisymm b a ∙ ap ordering_reverse h

pub compared_trans : (a b c : Text) → compared a b ≡ Less → compared b c ≡ Less → compared a c ≡ Less
compared_trans = total.trans

pub apart : {a b : Text} → compared a b ≡ Less → a ≡ b → ⊥
apart {a} {b} h e = let t : compared a a ≡ Equal = tied_itself total a in let u : compared a a ≡ compared a b = ap (compared a) e in cc

-- the lengths decide
pub by-length : (a b : Text) {o : Ordering} → o ≡ nat_cmp (length a) (length b) → is_ne o ≡ true → o ≡ compared a b
unfolding compared backwards
by-length a b {o} h n = h ∙ sym (decides (length a) (length b) (slice_cmp nat_cmp (reverse a) (reverse b)) (λ e. grind (arith, nat_tests)))

pub one-length : (a b : Text) {o : Ordering} → o ≡ nat_cmp (length a) (length b) → is_ne o ≡ false → length a ≡ length b
one-length a b {o} h n = grind (arith, nat_tests)

pub equal-texts : (a b : Text) → same a b ≡ true → Equal ≡ compared a b
equal-texts a b h = subst (λ c. Equal ≡ compared a c) (same-equal a b h) (sym (tied_itself total a))

-- the pair at which a comparison of two lists stops, and that it decides
record Stops (u v : List ℕ) (k : ℕ) : Type 0 where
  some : 0 < k
  inside : k ≤ length u
  told : slice_cmp nat_cmp u v ≡ nat_cmp (get_or u (k - 1) 0) (get_or v (k - 1) 0)

get_d_behind : (x : ℕ) (u : List ℕ) (k : ℕ) → 0 < k → get_or (x ∷ u) k 0 ≡ get_or u (k - 1) 0
get_d_behind x u zero l = absurd (omega arith)
get_d_behind x u (suc k) l = ap (λ z. get_or u z 0) (omega arith)

stops_here : (x y : ℕ) (u v : List ℕ) → (x ≡ y → ⊥) → Stops (x ∷ u) (y ∷ v) (until_differs (x ∷ u) (y ∷ v))
stops_here x y u v n =
    subst (Stops (x ∷ u) (y ∷ v)) (sym (until_differs_lem x y u v n))
    (record { some = omega arith; inside = omega arith; told = decides x y (slice_cmp nat_cmp u v) n })

stops_later : (x y : ℕ) (u v : List ℕ) → x ≡ y → Stops u v (until_differs u v) → Stops (x ∷ u) (y ∷ v) (until_differs (x ∷ u) (y ∷ v))
stops_later x y u v e g = subst (Stops (x ∷ u) (y ∷ v)) (sym (until_level x y u v e)) (record { some = omega arith; inside = omega (arith, g.inside); told = step })
  where
    step : slice_cmp nat_cmp (x ∷ u) (y ∷ v) ≡ nat_cmp (get_or (x ∷ u) (1 + until_differs u v - 1) 0) (get_or (y ∷ v) (1 + until_differs u v - 1) 0)
    step =
        let z : 1 + until_differs u v - 1 ≡ until_differs u v = omega arith in
        level x y (slice_cmp nat_cmp u v) e
        ∙ g.told
        ∙ rw (z, get_d_behind x u (until_differs u v) g.some, get_d_behind y v (until_differs u v) g.some) refl

stops : (u v : List ℕ) → length u ≡ length v → (u ≡ v → ⊥) → Stops u v (until_differs u v)
stops [] [] e n = absurd (n refl)
stops [] (y ∷ v) e n = absurd (omega (arith, e))
stops (x ∷ u) [] e n = absurd (omega (arith, e))
stops (x ∷ u) (y ∷ v) e n =
    elim (ℕ_discrete x y) [
      | yes h ↦ stops_later x y u v h (stops u v (omega (arith, e)) (λ q. n (let s : u ≡ v = q in cc)))
      | no h ↦ stops_here x y u v h
    ]

-- the k-th byte from the end
from_end : (a : Text) (k : ℕ) → 0 < k → k ≤ length a → get_or (reverse a) (k - 1) 0 ≡ get_or a (length a - k) 0
from_end a k l m =
    ap (λ z. get_or z (k - 1) 0) turned
    ∙ get_or_at (reverse (drop (suc (length a - k)) a)) (get_or a (length a - k) 0) (reverse (take (length a - k) a)) 0 (k - 1)
    (length-reverse (drop (suc (length a - k)) a) ∙ omega (arith, length-drop (suc (length a - k)) a))
  where
    turned : reverse a ≡ reverse (drop (suc (length a - k)) a) ++ get_or a (length a - k) 0 ∷ reverse (take (length a - k) a)
    turned =
        ap reverse (split_at a (length a - k) 0 (omega arith))
        ∙ reverse-append (take (length a - k) a) (get_or a (length a - k) 0 ∷ drop (suc (length a - k)) a)
        ∙ ap (λ z. z ++ reverse (take (length a - k) a)) (reverse-cons (get_or a (length a - k) 0) (drop (suc (length a - k)) a))
        ∙ append_snoc (reverse (drop (suc (length a - k)) a)) (get_or a (length a - k) 0) (reverse (take (length a - k) a))

-- where two texts of one length are not the same, the pair at which the comparison stopped decides
module _ (a b : Text) {r : Comparison} (e : length a ≡ length b) (p : r ≡ comparison a b) (n : r.same ≡ false) where
  other : a ≡ b → ⊥
  other h = true≢false (subst (λ c. same a c ≡ true) h (same_refl a)) (sym (ap (λ z. z.same) p) ∙ n)

  count : r.looked ≡ until_differs (reverse a) (reverse b)
  count = ap (λ z. z.looked) p ∙ looked_level a b e

  here : Stops (reverse a) (reverse b) r.looked
  here =
      subst (Stops (reverse a) (reverse b)) (sym count)
      (stops (reverse a) (reverse b) (length-reverse a ∙ e ∙ sym (length-reverse b))
      (λ h. other (sym (reverse-reverse a) ∙ ap reverse h ∙ reverse-reverse b)))

  pub stop-inside : r.looked ≤ length a
  stop-inside = omega (arith, here.inside, length-reverse a)

  pub stop-some : 0 < r.looked
  stop-some = here.some

  pub stop_tells : nat_cmp (get_or a (length a - r.looked) 0) (get_or b (length a - r.looked) 0) ≡ compared a b
  unfolding compared backwards
  stop_tells =
      sym (level (length a) (length b) (slice_cmp nat_cmp (reverse a) (reverse b)) e
      ∙ here.told
      ∙ rw (from_end a r.looked stop-some stop-inside, e, from_end b r.looked stop-some (omega (arith, stop-inside))) refl)
