-- A table of numbers of 16 bits is written entry by entry, each behind those that are there.
use mathlib.Core.Path.{◌≡◌, refl, ap, sym, ◌∙◌}
use mathlib.Core.List.{List, [], ◌∷◌, ◌++◌, append_assoc}
use Prim.Native.Nat.{ℕ, zero, suc, ◌+◌, ◌*◌, ◌/◌, ◌%◌, ◌≤◌, ◌<◌}
use native.Mathlib.Nat.{add-zero, zero-add}
use native.Mathlib.Numerals.{add-one}
use native.Mathlib.Omega.{arith}
use lib.ListN.{length, get_or, take, drop, replicate, length-append, length-drop, drop_of_length-le}
use Rattle.std.proofs.lemmas.List.{length-take-le, append-nil}
use lib.Seq.{drop-cons}
use borrow.Author.Tests.{lt-ltb}
use Rattle.semantics.specs.Codes.{none_number}
use Rattle.image_fields.specs.Image.{table}
use Rattle.image_fields.proofs.TableLaws.{table-length}
use Rattle.lent.specs.Inside.Stores.{set16, store16, pairs}
use Rattle.lent.proofs.BufferLaws.{length_pairs, length-store16}

behind : (p : List ℕ) (x y : ℕ) (r : List ℕ) (at v : ℕ) → at ≡ length p → set16 (p ++ x ∷ y ∷ r) at v ≡ p ++ v / 256 % 256 ∷ v % 256 ∷ r
unfolding set16
behind [] x y r at v e = rw e
behind (z ∷ p) x y r at v e =
    let b : suc (length p) + 1 ≡ suc (length p + 1) = omega arith in
    rw (e, b) (ap (λ l. z ∷ l) (behind p x y r (length p) v refl))

pairs_append : (xs ys : List ℕ) → pairs (xs ++ ys) ≡ pairs xs ++ pairs ys
unfolding pairs
pairs_append [] ys = refl
pairs_append (x ∷ xs) ys = ap (λ l. x / 256 % 256 ∷ x % 256 ∷ l) (pairs_append xs ys)

module _ (f : ℕ → ℕ) where
  table_snoc : (i n : ℕ) → table f i (suc n) ≡ table f i n ++ f (i + n) ∷ []
  unfolding table
  table_snoc i zero = rw add-zero
  table_snoc i (suc n) = let e : i + suc n ≡ suc i + n = omega arith in rw e (ap (λ l. f i ∷ l) (table_snoc (suc i) n))

  one_more : (k : ℕ) → pairs (table f 0 k) ++ f k / 256 % 256 ∷ f k % 256 ∷ [] ≡ pairs (table f 0 (k + 1))
  unfolding pairs
  one_more k =
      sym (pairs_append (table f 0 k) (f k ∷ []))
      ∙ ap pairs (ap (λ j. table f 0 k ++ f j ∷ []) (sym (zero-add k)) ∙ sym (table_snoc 0 k) ∙ ap (table f 0) (sym (add-one k)))

  next-value : (k : ℕ) (l : List ℕ) → 2 * k + 1 < length l
      → store16 (pairs (table f 0 k) ++ drop (2 * k) l) (2 * k) (f k) ≡ pairs (table f 0 (k + 1)) ++ drop (2 * (k + 1)) l
  unfolding store16
  next-value k l h =
      let d : drop (2 * k) l ≡ get_or l (2 * k) 0 ∷ get_or l (suc (2 * k)) 0 ∷ drop (suc (suc (2 * k))) l =
      drop-cons l (2 * k) 0 (omega arith) ∙ ap (λ r. get_or l (2 * k) 0 ∷ r) (drop-cons l (suc (2 * k)) 0 (omega arith)) in
      let m : 2 * k ≡ length (pairs (table f 0 k)) = omega (arith, length_pairs (table f 0 k), table-length f 0 k) in
      let e : suc (suc (2 * k)) ≡ 2 * (k + 1) = omega arith in
      let room : 2 * k + 1 < length (pairs (table f 0 k) ++ drop (2 * k) l) = omega (arith, length-append (pairs (table f 0 k)) (drop (2 * k) l), length-drop (2 * k) l) in
      rw (lt-ltb (2 * k + 1) (length (pairs (table f 0 k) ++ drop (2 * k) l)) room)
      (ap (λ r. set16 (pairs (table f 0 k) ++ r) (2 * k) (f k)) d
      ∙ behind (pairs (table f 0 k)) _ _ _ (2 * k) (f k) m
      ∙ ap (λ j. pairs (table f 0 k) ++ f k / 256 % 256 ∷ f k % 256 ∷ drop j l) e
      ∙ sym (append_assoc (pairs (table f 0 k)) (f k / 256 % 256 ∷ f k % 256 ∷ []) (drop (2 * (k + 1)) l))
      ∙ ap (λ r. r ++ drop (2 * (k + 1)) l) (one_more k))

-- k of n entries are written, and the rest is as it was
pub record Filling (f : ℕ → ℕ) (n : ℕ) (start now : List ℕ) (k : ℕ) : Type 0 where
  pub inside : k ≤ n
  pub room : 2 * n ≤ length start
  pub kept : length now ≡ length start
  pub value : now ≡ pairs (table f 0 k) ++ drop (2 * k) start

pub filling_start : (f : ℕ → ℕ) (n : ℕ) (start : List ℕ) → 2 * n ≤ length start → Filling f n start start 0
unfolding pairs table
filling_start f n start h = record { inside = omega arith; room = h; kept = refl; value = refl }

module _ {f : ℕ → ℕ} {n : ℕ} {start now : List ℕ} {k : ℕ} (g : Filling f n start now k) where
  pub filling_more : {x : ℕ} {after : List ℕ} → k < n → x ≡ f k → after ≡ store16 now (2 * k) x → Filling f n start after (k + 1)
  filling_more {x} h e a =
      record {
        inside = omega arith;
        room = g.room;
        kept = rw a (length-store16 now (2 * k) x ∙ g.kept);
        value = rw (a, e, g.value) (next-value f k start (omega (arith, g.room)));
      }

  pub filling_done : n ≤ k → now ≡ pairs (table f 0 n) ++ drop (2 * n) start
  filling_done h = let e : k ≡ n = omega (arith, g.inside) in rw (← e) g.value

-- the loop of `fill_none`: one entry for all
pub none_each : ℕ → ℕ
none_each n = none_number

constant : (i n : ℕ) → table none_each i n ≡ replicate n none_number
unfolding table none_each
constant i zero = refl
constant i (suc n) = ap (λ l. none_number ∷ l) (constant (suc i) n)

none_done : {count n : ℕ} {start now : List ℕ} → Filling none_each count start now n → count ≤ n
    → now ≡ pairs (replicate count none_number) ++ drop (2 * count) start
none_done {count} g h = rw (← constant 0 count) (filling_done g h)

pub none_more : {count n : ℕ} {start now after : List ℕ} → Filling none_each count start now n → n < count
    → after ≡ store16 now (2 * n) none_number → Filling none_each count start after (n + 1)
unfolding none_each
none_more g h a = filling_more g h refl a

-- the entries as the front of a table, behind which it stays
pub front_start : (count : ℕ) (l : List ℕ) → 2 * count ≤ length l → Filling none_each count (take (2 * count) l) (take (2 * count) l) 0
front_start count l h = filling_start none_each count (take (2 * count) l) (omega (arith, length-take-le (2 * count) l h))

pub front_done : (count : ℕ) (l : List ℕ) {n : ℕ} {now : List ℕ} → 2 * count ≤ length l → Filling none_each count (take (2 * count) l) now n → count ≤ n
    → now ++ drop (2 * count) l ≡ pairs (replicate count none_number) ++ drop (2 * count) l
front_done count l h g o =
    let e : drop (2 * count) (take (2 * count) l) ≡ [] = drop_of_length-le (take (2 * count) l) (omega (arith, length-take-le (2 * count) l h)) in
    ap (λ r. r ++ drop (2 * count) l) (none_done g o ∙ ap (λ r. pairs (replicate count none_number) ++ r) e ∙ append-nil (pairs (replicate count none_number)))
