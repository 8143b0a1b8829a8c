-- Numbers of 16 bits are read as they were written.
use mathlib.Core.Path.{◌≡◌, refl, ap, sym, ◌∙◌}
use mathlib.Core.List.{List, [], ◌∷◌, ◌++◌}
use Prim.Native.Nat.{ℕ, zero, suc, ◌+◌, ◌*◌, ◌/◌, ◌%◌, ◌^◌, ◌<◌}
use native.Mathlib.Nat.{add-zero, zero-add}
use native.Mathlib.Omega.{arith}
use lib.ListN.{length, get_or}
use Rattle.semantics.specs.Base.{numbered, each}
use Rattle.semantics.specs.Formats.{bytes_of}
use Rattle.image_fields.specs.Image.{field_in, table}
use Rattle.image_fields.specs.Inside.Words.{word_of}
use Rattle.image_fields.proofs.FieldLaws.{Bytes, taken}
use Rattle.image_fields.proofs.TableLaws.{table-length, table_at}
use Rattle.lent.specs.Inside.Stores.{pairs}
use Rattle.lent.proofs.BufferLaws.{length_pairs}

pairs-bytes : (xs : List ℕ) → Bytes (pairs xs)
unfolding pairs
pairs-bytes [] i = omega arith
pairs-bytes (x ∷ xs) zero = omega arith
pairs-bytes (x ∷ xs) (suc zero) = omega arith
pairs-bytes (x ∷ xs) (suc (suc i)) = pairs-bytes xs i

-- the two bytes of an entry
high : (xs : List ℕ) (n : ℕ) → n < length xs → get_or (pairs xs) (2 * n) 0 ≡ get_or xs n 0 / 256 % 256
unfolding pairs
high [] n h = absurd (omega arith)
high (x ∷ xs) zero h = refl
high (x ∷ xs) (suc n) h = let e : 2 * suc n ≡ suc (suc (2 * n)) = omega arith in rw e (high xs n (omega arith))

low : (xs : List ℕ) (n : ℕ) → n < length xs → get_or (pairs xs) (2 * n + 1) 0 ≡ get_or xs n 0 % 256
unfolding pairs
low [] n h = absurd (omega arith)
low (x ∷ xs) zero h = refl
low (x ∷ xs) (suc n) h = let e : 2 * suc n + 1 ≡ suc (suc (2 * n + 1)) = omega arith in rw e (low xs n (omega arith))

pub word_two : (s : List ℕ) (at : ℕ) → word_of s at 2 ≡ get_or s at 0 * 256 + get_or s (at + 1) 0
unfolding word_of
word_two s at = rw (add-zero, zero-add)

-- a field of an entry that is no more than 16 bits
pub pairs-field : (xs : List ℕ) (n offset width k : ℕ) → n < length xs → get_or xs n 0 < 65536 → offset + width + k ≡ 16
    → field_in (pairs xs) (2 * n) offset width ≡ get_or xs n 0 / 2 ^ k % 2 ^ width
pairs-field xs n offset width k h small e =
    let v : get_or xs n 0 ≡ word_of (pairs xs) (2 * n) 2 = rw (word_two, high xs n h, low xs n h) (omega arith) in
    sym (taken (pairs xs) (pairs-bytes xs) (2 * n) 2 offset width k (omega arith) v refl)

-- a table of such numbers, one for each element of a list
module _ {A : Type 0} (g : ℕ → List ℕ) (f : ℕ → ℕ) (two : (k : ℕ) → g k ≡ bytes_of 2 (f k)) where
  rows : (i : ℕ) (l : List A) → each (λ x. g x.0) (numbered i l) ≡ pairs (table f i (length l))
  unfolding each numbered bytes_of pairs table
  rows i [] = refl
  rows i (x ∷ l) = ap (λ r. g i ++ r) (rows (suc i) l) ∙ rw (two i)

  module _ (l : List A) where
    pub entries : each (λ x. g x.0) (numbered 0 l) ≡ pairs (table f 0 (length l))
    entries = rows 0 l

    pub entries-length : length (each (λ x. g x.0) (numbered 0 l)) ≡ 2 * length l
    entries-length = ap length entries ∙ length_pairs (table f 0 (length l)) ∙ ap (λ k. 2 * k) (table-length f 0 (length l))

    -- the field of an entry
    pub entry-field : (n offset width k : ℕ) → n < length l → f n < 65536 → offset + width + k ≡ 16
        → field_in (each (λ x. g x.0) (numbered 0 l)) (2 * n) offset width ≡ f n / 2 ^ k % 2 ^ width
    entry-field n offset width k h small e =
        let v : get_or (table f 0 (length l)) n 0 ≡ f n = table_at f (length l) n 0 h in
        ap (λ r. field_in r (2 * n) offset width) entries
        ∙ pairs-field (table f 0 (length l)) n offset width k (rw table-length h) (rw v small) e
        ∙ ap (λ x. x / 2 ^ k % 2 ^ width) v
