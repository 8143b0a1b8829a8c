-- A call as C sees it, from the call itself: what is lent with it, and the numbers of its answer.
use mathlib.Core.Path.{◌≡◌, refl, ap, ◌∙◌}
use mathlib.Core.Bool.{Bool, true, false, cond}
use mathlib.Core.List.{List, [], ◌∷◌}
use Prim.Native.Nat.{ℕ, zero, suc}
use native.Mathlib.Omega.{arith}
use lib.Dec.{eqb}
use lib.ListN.{length, replicate}
use borrow.Author.Tests.{ne_eqb}
use Rattle.lent.specs.Calls.{first_broken, zeroes, afterwards, zeros, Call, leaves, answer_after, outcome_after, refusal_of, outcome, exported}

-- a number of the answer: where there is a refusal it is not looked at
module _ {Question Lent Answer : Type 0} (call : Call Question Lent Answer) (q : Question) (l : Lent) {r : Answer} {l' : Lent} (e : leaves r l' ≡ outcome call q l) where
  pub number-told : (f : Answer → ℕ) {n x : ℕ} (b : ℕ) → f (call.done q) ≡ x → n ≡ refusal_of call q l → afterwards n (f r) 0 b ≡ afterwards n x 0 b
  unfolding outcome outcome_after afterwards answer_after
  number-told f {n} {x} b d h = rw (h, ap (λ o. f o.answer) e) (go (refusal_of call q l))
    where
      go : (k : ℕ) → afterwards k (f (answer_after call k q)) 0 b ≡ afterwards k x 0 b
      go zero = d
      go (suc k) = rw (ne_eqb (suc k) 0 (λ z. absurd (omega arith)))

-- the lent numbers of an answer, one after the other
pub after_cons : (n x b : ℕ) (xs bs : List ℕ) → afterwards n (x ∷ xs) (zeros (b ∷ bs)) (b ∷ bs) ≡ afterwards n x 0 b ∷ afterwards n xs (zeros bs) bs
unfolding afterwards zeros
after_cons n x b xs bs = go (eqb n 0) (zeroes n)
  where
    go : (y z : Bool) → cond y (x ∷ xs) (cond z (replicate (length (b ∷ bs)) 0) (b ∷ bs)) ≡ cond y x (cond z 0 b) ∷ cond y xs (cond z (replicate (length bs) 0) bs)
    go true z = refl
    go false true = refl
    go false false = refl

pub after_nil : (n : ℕ) → afterwards n [] (zeros []) [] ≡ []
unfolding afterwards zeros
after_nil n = go (eqb n 0) (zeroes n)
  where
    go : (y z : Bool) → ◌≡◌ {A = List ℕ} (cond y [] (cond z [] [])) []
    go true z = refl
    go false true = refl
    go false false = refl

-- two things that are lent
pub after_pair : {A B : Type 0} (n : ℕ) (x y z : A) (u v w : B) → afterwards {A = A × B} n (x, u) (y, v) (z, w) ≡ (afterwards n x y z, afterwards n u v w)
unfolding afterwards
after_pair {A} {B} n x y z u v w = go (eqb n 0) (zeroes n)
  where
    go : (a b : Bool) → ◌≡◌ {A = A × B} (cond a (x, u) (cond b (y, v) (z, w))) (cond a x (cond b y z), cond a u (cond b v w))
    go true b = refl
    go false true = refl
    go false false = refl

-- the call as C sees it, from the call itself
module _ {Question Lent Answer : Type 0} (call : Call Question Lent Answer) (numbers : Question → List ℕ) (q : Question) (l : Lent) (before : List ℕ) where
  number_is : (n : ℕ) → answer_after (exported call numbers) n q ≡ n
  unfolding answer_after
  number_is zero = refl
  number_is (suc n) = refl

  pub as_exported : {n : ℕ} {r : Answer} {l' : Lent} {after : List ℕ} → n ≡ refusal_of call q l → leaves r l' ≡ outcome call q l
      → after ≡ afterwards n (numbers q) (zeros before) before → leaves n (l', after) ≡ outcome (exported call numbers) q (l, before)
  unfolding outcome outcome_after refusal_of
  as_exported {n} {r} {l'} {after} h e a =
      let k = first_broken (call.rules q l) in
      let f : l' ≡ afterwards k (call.written q l) (call.zeroed l) l = ap (λ o. o.lent) e in
      let g : after ≡ afterwards k (numbers q) (zeros before) before = a ∙ ap (λ i. afterwards i (numbers q) (zeros before) before) h in
      let j : n ≡ k = h in
      rw (number_is k, after_pair k (call.written q l) (call.zeroed l) l (numbers q) (zeros before) before, f, g, j)
