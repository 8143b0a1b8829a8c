-- Laws of the words of specs/Base.antt: of tests, of every number below n, of every element, of an entry picked by its number.
use Rattle.std.specs.Prelude.{Option, Some, None}
use mathlib.Core.Path.{◌≡◌, refl, ap, sym, subst, ◌∙◌}
use mathlib.Core.Bool.{Bool, true, false, not, ◌&&◌}
use mathlib.Core.List.{List, [], ◌∷◌, ◌++◌, map, append-nil, append_assoc, Memᴰ}
use mathlib.Core.Logic.{⊎_elim, ◌⊎◌}
use Prim.Native.Nat.{ℕ, zero, suc, ◌+◌, ◌<◌}
use native.Mathlib.Nat.{eq-or-lt_of_le}
use native.Mathlib.Numerals.{add-one}
use native.Mathlib.Omega.{arith}
use lib.Dec.{eqb}
use lib.ListN.{length, get_or}
use borrow.Author.Tests.{eqb-true, eq-eqb}
use Rattle.semantics.specs.Base.{only, pick, every, all, or_else, listed, found, first, final, keep, last, single, numbered, each, Given, All, ◌>>=◌}
use Rattle.semantics.specs.Tree.{same}

pub true≢false : {b : Bool} → b ≡ true → b ≡ false → ⊥
true≢false h k = let z : ◌≡◌ {A = ℕ} 0 1 = cc in omega arith

pub clash : {A : Type 0} {a : A} → None ≡ Some a → ⊥
clash h = let z : ◌≡◌ {A = ℕ} 0 1 = cc in omega arith

pub some_inj : {A : Type 0} {a b : A} → Some a ≡ Some b → a ≡ b
some_inj h = cc

pub not-true : (b : Bool) → not b ≡ true → b ≡ false
not-true true h = sym h
not-true false h = refl

pub and_left : (a b : Bool) → (a && b) ≡ true → a ≡ true
and_left true b h = refl
and_left false b h = h

pub and_right : (a b : Bool) → (a && b) ≡ true → b ≡ true
and_right true b h = h
and_right false b h = cc

pub and-false : (a : Bool) → (a && false) ≡ false
and-false true = refl
and-false false = refl

-- a loop over the numbers below n that stops where the test fails
pub all_none : (p : ℕ → Bool) → all p 0 ≡ true
unfolding all
all_none p = refl

pub all_more : (p : ℕ → Bool) (k : ℕ) → all p k ≡ true → p k ≡ true → all p (k + 1) ≡ true
unfolding all
all_more p k h e = rw (add-one, h, e)

pub all-every : (p : ℕ → Bool) (n : ℕ) → ((k : ℕ) → k < n → p k ≡ true) → all p n ≡ true
unfolding all
all-every p zero h = refl
all-every p (suc n) h = rw (all-every p n (λ k l. h k (omega arith)), h n (omega arith))

-- of the numbers below n + 1, k is n or below n
pub below_suc : (k n : ℕ) → k < suc n → (k ≡ n) ⊎ (k < n)
below_suc k n h = eq-or-lt_of_le (omega arith)

pub all-fails : (p : ℕ → Bool) (n k : ℕ) → k < n → p k ≡ false → all p n ≡ false
unfolding all
all-fails p zero k l e = absurd (omega arith)
all-fails p (suc n) k l e =
    ⊎_elim (λ q. rw (← q, e) (and-false (all p k))) (λ q. rw (all-fails p n k q e)) (below_suc k n l)

pub all-holds : (p : ℕ → Bool) (n k : ℕ) → all p n ≡ true → k < n → p k ≡ true
unfolding all
all-holds p zero k h l = absurd (omega arith)
all-holds p (suc n) k h l =
    ⊎_elim (λ q. rw q (and_right (all p n) (p n) h)) (λ q. all-holds p n k (and_left (all p n) (p n) h) q) (below_suc k n l)

pub every_holds : {A : Type 0} (p : A → Bool) (l : List A) (k : ℕ) (d : A) → every p l ≡ true → k < length l → p (get_or l k d) ≡ true
unfolding every
every_holds p [] k d h l = absurd (omega arith)
every_holds p (x ∷ xs) zero d h l = and_left (p x) (every p xs) h
every_holds p (x ∷ xs) (suc k) d h l =
    let m : k < length xs = omega arith in every_holds p xs k d (and_right (p x) (every p xs) h) m

-- an entry picked by its number: it is the first, or it is not
pub pick_first : {A : Type 0} (n : ℕ) (x : ℕ × A) (xs : List (ℕ × A)) (d : A) → eqb n x.0 ≡ true → pick n (x ∷ xs) d ≡ x.1
unfolding pick
pick_first n x xs d h = rw (h, pick)

pub pick-none : {A : Type 0} (n : ℕ) (d : A) → pick n [] d ≡ d
unfolding pick
pick-none n d = refl

pub pick_later : {A : Type 0} (n : ℕ) (x : ℕ × A) (xs : List (ℕ × A)) (d : A) → eqb n x.0 ≡ false → pick n (x ∷ xs) d ≡ pick n xs d
unfolding pick
pick_later n x xs d h = rw (h, pick)

-- two texts that pass the comparison are the same list
pub same-equal : (a b : List ℕ) → same a b ≡ true → a ≡ b
unfolding same
same-equal [] [] h = refl
same-equal [] (y ∷ ys) h = cc
same-equal (x ∷ xs) [] h = cc
same-equal (x ∷ xs) (y ∷ ys) h =
    let e : x ≡ y = eqb-true x y (and_left (eqb x y) (same xs ys) h) in
    let t : xs ≡ ys = same-equal xs ys (and_right (eqb x y) (same xs ys) h) in
    cc

pub same_refl : (a : List ℕ) → same a a ≡ true
unfolding same
same_refl [] = refl
same_refl (x ∷ a) = rw (eq-eqb x x refl) (same_refl a)

-- two texts of other lengths do not pass it
pub length_differs : (a b : List ℕ) → (length a ≡ length b → ⊥) → same a b ≡ false
unfolding same
length_differs [] [] n = absurd (n refl)
length_differs [] (y ∷ ys) n = refl
length_differs (x ∷ xs) [] n = refl
length_differs (x ∷ xs) (y ∷ ys) n = rw (length_differs xs ys (λ e. n (ap suc e))) (and-false (eqb x y))

-- How options are taken apart: a test that passed, one of two, one after the other.
module _ {A : Type 0} where
  pub only-some : {C : Type 0} (b : Bool) {a x : A} → only b a ≡ Some x → (b ≡ true → a ≡ x → C) → C
  unfolding only
  only-some true h k = k refl (cc)
  only-some false {a} {x} h k = k (cc) (cc)

  pub only-true : (b : Bool) (a : A) → b ≡ true → only b a ≡ Some a
  unfolding only
  only-true true a h = refl
  only-true false a h = cc

  pub either : {C : Type 0} (a : Option A) {b : Option A} {x : A} → or_else a b ≡ Some x → (a ≡ Some x → C) → (b ≡ Some x → C) → C
  unfolding or_else
  either None h k l = l h
  either (Some a) h k l = k h

  pub single-last : (l : List A) {x : A} → single l ≡ Some x → last l ≡ Some x
  unfolding single last or_else
  single-last [] h = h
  single-last (x ∷ []) h = h
  single-last (x ∷ y ∷ r) h = cc

module _ {A : Type 0} (P : A → Type 0) where
  pub of : (o : Option A) {a : A} → Given o P → o ≡ Some a → P a
  of o g h = subst (λ z. Given z P) h g

  -- what holds of each entry whose number it is, and of the other value where it is none of them, holds of what is picked
  pub pick-each : (n : ℕ) (l : List (ℕ × A)) (d : A) → All (λ x. eqb n x.0 ≡ true → P x.1) l → (All (λ x. eqb n x.0 ≡ false) l → P d) → P (pick n l d)
  unfolding pick
  pick-each n [] d h hd = hd tt
  pick-each n (x ∷ l) d h hd = go (eqb n x.0) refl (λ e. pick-each n l d h.1 (λ r. hd (e, r)))
    where
      go : (b : Bool) → eqb n x.0 ≡ b → (eqb n x.0 ≡ false → P (pick n l d)) → P (elim b as (λ z. A) [ true ↦ x.1 | false ↦ pick n l d ])
      go true e r = h.0 e
      go false e r = r e

  pub pick_all : (n : ℕ) (l : List (ℕ × A)) (d : A) → All (λ x. eqb n x.0 ≡ true → P x.1) l → P d → P (pick n l d)
  pick_all n l d h hd = pick-each n l d h (λ r. hd)

  pub All-++ : (l r : List A) → All P l → All P r → All P (l ++ r)
  All-++ [] r p q = q
  All-++ (x ∷ l) r p q = (p.0, All-++ l r p.1 q)

  pub All-left : (l r : List A) → All P (l ++ r) → All P l
  All-left [] r p = tt
  All-left (x ∷ l) r p = (p.0, All-left l r p.1)

  pub All_right : (l r : List A) → All P (l ++ r) → All P r
  All_right [] r p = p
  All_right (x ∷ l) r p = All_right l r p.1

  pub All-found : (o : Option (List A)) → ((l : List A) → o ≡ Some l → All P l) → All P (found o)
  unfolding found
  All-found None h = tt
  All-found (Some l) h = h l refl

  pub All-at : {a : A} (l : List A) → All P l → Memᴰ a l → P a
  All-at l p (Memᴰ.head e) = subst P (sym e) p.0
  All-at l p (Memᴰ.tail {xs = xs} m) = All-at xs p.1 m

  pub All_of : (l : List A) → ((a : A) → Memᴰ a l → P a) → All P l
  All_of [] h = tt
  All_of (x ∷ l) h = (h x (Memᴰ.head refl), All_of l (λ a m. h a (Memᴰ.tail m)))

  -- from one property to another
  pub All_to : (Q : A → Type 0) (l : List A) → ((a : A) → P a → Q a) → All P l → All Q l
  All_to Q [] f h = tt
  All_to Q (x ∷ l) f h = (f x h.0, All_to Q l f h.1)

  -- of the elements that pass a test
  pub All-keep : (Q : A → Type 0) (p : A → Bool) (l : List A) → ((a : A) → p a ≡ true → P a → Q a) → All P l → All Q (keep p l)
  unfolding keep listed only
  All-keep Q p [] f h = tt
  All-keep Q p (x ∷ l) f h = go (p x) refl (All-keep Q p l f h.1)
    where
      go : (b : Bool) → p x ≡ b → All Q (keep p l) → All Q (listed (only b x) ++ keep p l)
      go true e r = (f x e h.0, r)
      go false e r = r

  -- of the first and of the last element that passes a test
  pub first-all : (Q : A → Type 0) (p : A → Bool) (l : List A) {m : A} → ((a : A) → p a ≡ true → P a → Q a) → All P l → first p l ≡ Some m → Q m
  unfolding first
  first-all Q p [] f a h = absurd (clash h)
  first-all Q p (x ∷ l) f a h = either (only (p x) x) h (λ g. only-some (p x) g (λ b e. subst Q e (f x b a.0))) (first-all Q p l f a.1)

  pub final-all : (Q : A → Type 0) (p : A → Bool) (l : List A) {m : A} → ((a : A) → p a ≡ true → P a → Q a) → All P l → final p l ≡ Some m → Q m
  unfolding final
  final-all Q p [] f a h = absurd (clash h)
  final-all Q p (x ∷ l) f a h = either (final p l) h (final-all Q p l f a.1) (λ g. only-some (p x) g (λ b e. subst Q e (f x b a.0)))

  -- of the elements with their places
  pub All-numbered : (k : ℕ) (l : List A) → All P l → All (λ x. P x.1) (numbered k l)
  unfolding numbered
  All-numbered k [] h = tt
  All-numbered k (x ∷ l) h = (h.0, All-numbered (suc k) l h.1)

  pub All-each : {B : Type 0} (f : B → List A) (l : List B) → ((b : B) → All P (f b)) → All P (each f l)
  unfolding each
  All-each f [] h = tt
  All-each f (x ∷ l) h = All-++ (f x) (each f l) (h x) (All-each f l h)

  -- the same, where something is known of each b
  pub All_each' : {B : Type 0} (Q : B → Type 0) (f : B → List A) (l : List B) → All Q l → ((b : B) → Q b → All P (f b)) → All P (each f l)
  unfolding each
  All_each' Q f [] q h = tt
  All_each' Q f (x ∷ l) q h = All-++ (f x) (each f l) (h x q.0) (All_each' Q f l q.1 h)

module _ {A B : Type 0} where
  pub after : {C : Type 0} (o : Option A) (f : A → Option B) {y : B} → (o >>= f) ≡ Some y → ((a : A) → o ≡ Some a → f a ≡ Some y → C) → C
  unfolding ◌>>=◌
  after None f h k = absurd (clash h)
  after (Some a) f h k = k a refl h

  pub then : {o : Option A} {a : A} (f : A → Option B) {y : B} → o ≡ Some a → f a ≡ Some y → (o >>= f) ≡ Some y
  unfolding ◌>>=◌
  then f {y} h k = subst (λ p. (p >>= f) ≡ Some y) (sym h) k

  -- two functions that agree at each element list and count the same
  pub each_cong : (f g : A → List B) (l : List A) → All (λ a. f a ≡ g a) l → each f l ≡ each g l
  unfolding each
  each_cong f g [] h = refl
  each_cong f g (x ∷ l) h = ap (λ z. z ++ each f l) h.0 ∙ ap (λ z. g x ++ z) (each_cong f g l h.1)

  pub map_cong : (f g : A → B) (l : List A) → All (λ a. f a ≡ g a) l → map f l ≡ map g l
  map_cong f g [] h = refl
  map_cong f g (x ∷ l) h = ap (λ z. z ∷ map f l) h.0 ∙ ap (λ z. g x ∷ z) (map_cong f g l h.1)

  -- what holds of each image holds of the list of them
  pub All-map : (P : B → Type 0) (f : A → B) (l : List A) → All (λ a. P (f a)) l → All P (map f l)
  All-map P f [] h = tt
  All-map P f (x ∷ l) h = (h.0, All-map P f l h.1)

  pub each-++ : (f : A → List B) (l r : List A) → each f (l ++ r) ≡ each f l ++ each f r
  unfolding each
  each-++ f [] r = refl
  each-++ f (x ∷ l) r = ap (λ z. f x ++ z) (each-++ f l r) ∙ sym (append_assoc (f x) (each f l) (each f r))

  pub each-one : (f : A → List B) (a : A) → each f (a ∷ []) ≡ f a
  unfolding each
  each-one f a = append-nil (f a)

-- an element with its place stands there
pub numbered-at : {A : Type 0} (d : A) (f : ℕ → A) (k : ℕ) (l : List A) → ((j : ℕ) → j < length l → f (k + j) ≡ get_or l j d) →
    All (λ x. f x.0 ≡ x.1) (numbered k l)
unfolding numbered
numbered-at d f k [] h = tt
numbered-at d f k (x ∷ l) h = (here, numbered-at d f (suc k) l later)
  where
    here : f k ≡ x
    here = let z : 0 < length (x ∷ l) = omega arith in subst (λ n. f n ≡ x) (omega arith) (h 0 z)

    later : (j : ℕ) → j < length l → f (suc k + j) ≡ get_or l j d
    later j m = let z : suc j < length (x ∷ l) = omega arith in subst (λ n. f n ≡ get_or l j d) (omega arith) (h (suc j) z)

-- what holds at each place of a list holds of each element
pub All-places : {A : Type 0} (P : A → Type 0) (l : List A) (d : A) → ((k : ℕ) → k < length l → P (get_or l k d)) → All P l
All-places P [] d h = tt
All-places P (x ∷ l) d h = (h 0 (omega arith), All-places P l d (λ k m. h (suc k) (omega arith)))
