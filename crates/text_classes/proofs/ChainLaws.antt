-- Chains of texts: how a look goes through one, what a store changes, and that they tell the first name of a text's bytes.
use Rattle.std.specs.Prelude.{Some, None}
use mathlib.Core.Path.{◌≡◌, refl, ap, sym, subst, ◌∙◌}
use mathlib.Core.Bool.{Bool, true, false}
use mathlib.Core.List.{List, [], ◌∷◌}
use Prim.Native.Nat.{ℕ, zero, suc, ◌+◌, ◌-◌, ◌≤◌, ◌<◌}
use native.Mathlib.Omega.{arith}
use lib.ListN.{length, get_or, set, replicate}
use lib.Seq.{get_or-set_other}
use Rattle.semantics.specs.Base.{only, or_else, All}
use Rattle.semantics.specs.Tree.{Tree, Text, text_at, same}
use Rattle.semantics.proofs.BaseLaws.{All-places, first-all}
use Rattle.image_fields.specs.Image.{text_count, decode}
use Rattle.resolve_laws.specs.Inside.Classes.{alike}
use Rattle.resolve_laws.proofs.ClassLaws.{alike_nil, alike_cons, alike_there}
use Rattle.text_classes.specs.declared.Sought.TheVariants.{At, Absent, Full}
use Rattle.text_classes.specs.Inside.Chains.{limit, chain_of, found_text, Seeks, Clear}

-- a chain of at most n texts: it is at its end, or has a text
pub chain_end : (next : List ℕ) (n : ℕ) → chain_of next n 0 ≡ []
unfolding chain_of
chain_end next zero = refl
chain_end next (suc n) = refl

pub chain-none : (next : List ℕ) (at : ℕ) → chain_of next 0 at ≡ []
unfolding chain_of
chain-none next at = refl

chain-suc : (next : List ℕ) (n z : ℕ) → chain_of next (suc n) (suc z) ≡ z ∷ chain_of next n (get_or next z 0)
unfolding chain_of
chain-suc next n z = refl

pub chain_more : (next : List ℕ) (n at : ℕ) → 0 < n → (at ≡ 0 → ⊥) → chain_of next n at ≡ (at - 1) ∷ chain_of next (n - 1) (get_or next (at - 1) 0)
chain_more next zero at l h = absurd (omega arith)
chain_more next (suc n) zero l h = absurd (h refl)
chain_more next (suc n) (suc z) l h =
    let p : suc z - 1 ≡ z = omega arith in let q : suc n - 1 ≡ n = omega arith in rw (p, q) (chain-suc next n z)

-- one that has fewer texts than it may is all there
pub chain-whole : (next : List ℕ) (n at : ℕ) → length (chain_of next (suc n) at) < suc n → chain_of next n at ≡ chain_of next (suc n) at
unfolding chain_of
chain-whole next zero zero h = refl
chain-whole next zero (suc z) h = absurd (omega arith)
chain-whole next (suc n) zero h = refl
chain-whole next (suc n) (suc z) h = ap (λ l. z ∷ l) (chain-whole next n (get_or next z 0) (omega arith))

-- a store at a text that is not in a chain
pub chain-set : (next : List ℕ) (y v n at : ℕ) → All (λ z. z ≡ y → ⊥) (chain_of next n at) → chain_of (set next y v) n at ≡ chain_of next n at
unfolding chain_of
chain-set next y v zero at h = refl
chain-set next y v (suc n) zero h = refl
chain-set next y v (suc n) (suc z) h =
    ap (λ w. z ∷ chain_of (set next y v) n w) (get_or-set_other next y z v 0 h.0) ∙ ap (λ l. z ∷ l) (chain-set next y v n (get_or next z 0) h.1)

pub positive : (v : ℕ) → (v ≡ 0 → ⊥) → 0 < v
positive zero f = absurd (f refl)
positive (suc v) f = omega arith

-- what is found stands there; where nothing is found the text itself does not
pub alike_in : (P : ℕ → Type 0) (t : Tree) (x : ℕ) (l : List ℕ) → All P l → {z : ℕ} → alike t x l ≡ Some z → P z
unfolding alike
alike_in P t x l a h = first-all P P (λ z. same (text_at t x) (text_at t z)) l (λ z b p. p) a h

pub alike-none : (t : Tree) (y : ℕ) (l : List ℕ) → alike t y l ≡ None → All (λ z. z ≡ y → ⊥) l
alike-none t y l h = All-places (λ z. z ≡ y → ⊥) l 0 (λ k m e. alike_there t y l k 0 m (ap (text_at t) (sym e)) h)

-- the comparison of two texts
pub same-texts : (t : Tree) (x z : ℕ) {a b : Text} → a ≡ text_at t x → b ≡ text_at t z → {r : Bool} → r ≡ same a b → r ≡ same (text_at t x) (text_at t z)
same-texts t x z e f q = q ∙ rw (e, f)

pub cleared : (n : ℕ) → Clear (replicate n 0)
cleared n = record { zero-at = blank n }
  where
    blank : (m k : ℕ) → get_or {A = ℕ} (replicate m 0) k 0 ≡ 0
    blank zero k = refl
    blank (suc m) zero = refl
    blank (suc m) (suc k) = blank m k

-- the loop of `seek`
pub record Seeking (s next : List ℕ) (head x at left : ℕ) : Type 0 where
  pub inside : left ≤ limit
  pub texts : All (λ z. z < text_count s) (chain_of next left at)
  pub rest : alike (decode s) x (chain_of next left at) ≡ alike (decode s) x (chain_of next limit head)
  pub many : left + length (chain_of next limit head) ≡ limit + length (chain_of next left at)

pub seeking_start : {s next : List ℕ} {head : ℕ} (x : ℕ) → All (λ z. z < text_count s) (chain_of next limit head) → Seeking s next head x head limit
seeking_start x h = record { inside = omega arith; texts = h; rest = refl; many = refl }

module _ {s next : List ℕ} {head x at left : ℕ} (g : Seeking s next head x at left) where
  pub seeking_end : 0 < left → at ≡ 0 → Seeks (decode s) x (chain_of next limit head) Absent
  unfolding found_text
  seeking_end l h =
      let e : chain_of next left at ≡ [] = ap (chain_of next left) h ∙ chain_end next left in
      record {
        answer = sym g.rest ∙ ap (alike (decode s) x) e ∙ alike_nil (decode s) x;
        spare = λ q. omega (arith, g.many, ap length e);
        full = λ q. absurd cc;
      }

  pub seeking_full : left ≤ 0 → Seeks (decode s) x (chain_of next limit head) Full
  unfolding found_text
  seeking_full h =
      let z : left ≡ 0 = omega arith in
      let e : chain_of next left at ≡ [] = ap (λ n. chain_of next n at) z ∙ chain-none next at in
      record {
        answer = sym g.rest ∙ ap (alike (decode s) x) e ∙ alike_nil (decode s) x;
        spare = λ q. absurd cc;
        full = λ q. omega (arith, g.many, z, ap length e);
      }

  module _ (l : 0 < left) (h : at ≡ 0 → ⊥) where
    here : chain_of next left at ≡ (at - 1) ∷ chain_of next (left - 1) (get_or next (at - 1) 0)
    here = chain_more next left at l h

    pub seeking_text : at - 1 < text_count s
    seeking_text = (subst (All (λ z. z < text_count s)) here g.texts).0

    rest-is : {b : Bool} → b ≡ same (text_at (decode s) x) (text_at (decode s) (at - 1))
        → or_else (only b (at - 1)) (alike (decode s) x (chain_of next (left - 1) (get_or next (at - 1) 0))) ≡ alike (decode s) x (chain_of next limit head)
    rest-is e =
        ap (λ c. or_else (only c (at - 1)) (alike (decode s) x (chain_of next (left - 1) (get_or next (at - 1) 0)))) e
        ∙ sym (alike_cons (decode s) x (at - 1) (chain_of next (left - 1) (get_or next (at - 1) 0))) ∙ ap (alike (decode s) x) (sym here) ∙ g.rest

    pub seeking_found : {b : Bool} → b ≡ same (text_at (decode s) x) (text_at (decode s) (at - 1)) → b ≡ true
        → Seeks (decode s) x (chain_of next limit head) (At (at - 1))
    unfolding or_else only found_text
    seeking_found e q = record { answer = sym (rest-is (sym q ∙ e)); spare = λ z. absurd cc; full = λ z. absurd cc }

    pub seeking_more : {b : Bool} → b ≡ same (text_at (decode s) x) (text_at (decode s) (at - 1)) → b ≡ false → {v : ℕ} → v ≡ get_or next (at - 1) 0
        → {n : ℕ} → left ≡ n + 1 → Seeking s next head x v n
    unfolding or_else only
    seeking_more e q {v} w {n} i =
        let j : left - 1 ≡ n = omega arith in
        subst (Seeking s next head x v) j
        (subst (λ u. Seeking s next head x u (left - 1)) (sym w)
        (record {
          inside = omega (arith, g.inside);
          texts = (subst (All (λ z. z < text_count s)) here g.texts).1;
          rest = rest-is (sym q ∙ e);
          many = omega (arith, g.many, ap length here);
        }))

-- a text that was found is one of the image's
pub alike-small : (s l : List ℕ) (x v : ℕ) → All (λ z. z < text_count s) l → alike (decode s) x l ≡ Some v → v < text_count s
alike-small s l x v a e = alike_in (λ w. w < text_count s) (decode s) x l a e
