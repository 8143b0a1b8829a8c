-- A field of the bytes that hold it is the image's bit field: one law, over the place and the width.
use mathlib.Core.Path.{◌≡◌, refl, ap}
use Prim.Native.Nat.{ℕ, zero, suc, ◌+◌, ◌-◌, ◌*◌, ◌/◌, ◌%◌, ◌^◌, ◌≤◌, ◌<◌}
use native.Mathlib.Nat.{add-zero, zero-div, pow-suc, one-mul, mod-eq_of_lt}
use native.Mathlib.Numerals.{add-one}
use native.Mathlib.Omega.{arith}
use native.Mathlib.Decide.{dec_lt}
use mathlib.Core.List.{List, [], ◌∷◌}
use mir.Syntax.{w16, w32}
use Rattle.std.specs.Int.{from_be_bytes}
use lib.ListN.{length, get_or, get_or-eq_default}
use lib.Pow.{pow_pos, pow-add, pow_mono, shr-shr, mod-pow-add}
use Rattle.image_fields.specs.Bits.{bit_of, field_of}
use Rattle.image_fields.specs.Inside.Words.{word_of}

abbrev pub Bytes : List ℕ → Type 0
Bytes s = (i : ℕ) → get_or s i 0 < 256

bit_lt : (s : List ℕ) (p : ℕ) → bit_of s p < 2
unfolding bit_of
bit_lt s p = omega arith

pub field_lt : (s : List ℕ) (at width : ℕ) → field_of s at width < 2 ^ width
unfolding field_of
field_lt s at zero = omega arith
field_lt s at (suc w) = rw pow-suc (omega (arith, field_lt s at w, bit_lt s (at + w)))

-- past the end of the bytes every bit is 0
pub field_past : (s : List ℕ) (at width : ℕ) → 8 * length s ≤ at → field_of s at width ≡ 0
unfolding field_of bit_of
field_past s at zero h = refl
field_past s at (suc w) h =
    let z : get_or s ((at + w) / 8) 0 ≡ 0 = get_or-eq_default s 0 {n = (at + w) / 8} (omega arith) in
    rw (field_past s at w h, z, zero-div)

pub word_more : (s : List ℕ) (at n : ℕ) → word_of s at (n + 1) ≡ word_of s at n * 256 + get_or s (at + n) 0
unfolding word_of
word_more s at n = rw add-one

pub word_lt : (s : List ℕ) → Bytes s → (at n : ℕ) → word_of s at n < 2 ^ (8 * n)
unfolding word_of
word_lt s h at zero = omega arith
word_lt s h at (suc n) =
    let e : 8 * suc n ≡ 8 * n + 8 = omega arith in
    rw (e, pow-add 2 (8 * n) 8) (omega (arith, word_lt s h at n, h (at + n)))

-- the number of four bytes, of two
word_four : (s : List ℕ) (at : ℕ) → word_of s at 4 ≡ ((get_or s at 0 * 256 + get_or s (at + 1) 0) * 256 + get_or s (at + 2) 0) * 256 + get_or s (at + 3) 0
unfolding word_of
word_four s at = omega (arith, ap (λ i. get_or s i 0) (add-zero at))

pub four_read : (s : List ℕ) (at : ℕ) {v : ℕ}
    → v ≡ from_be_bytes w32 (get_or s at 0 ∷ get_or s (at + 1) 0 ∷ get_or s (at + 2) 0 ∷ get_or s (at + 3) 0 ∷ []) → v ≡ word_of s at 4
four_read s at e = rw (word_four s at) (omega (arith, e))

pub two_read : (s : List ℕ) (at : ℕ) {v : ℕ} → v ≡ from_be_bytes w16 (get_or s at 0 ∷ get_or s (at + 1) 0 ∷ []) → v ≡ word_of s at 2
unfolding word_of
two_read s at e = omega (arith, e, ap (λ i. get_or s i 0) (add-zero at))

-- eight bytes are four and four
pub four_and_four : (s : List ℕ) (at : ℕ) {x y : ℕ} → x ≡ word_of s at 4 → y ≡ word_of s (at + 4) 4 → x * 4294967296 + y ≡ word_of s at 8
unfolding word_of
four_and_four s at e f = omega (arith, e, f, there 0 4 (omega arith), there 1 5 (omega arith), there 2 6 (omega arith), there 3 7 (omega arith))
  where
    there : (k n : ℕ) → 4 + k ≡ n → get_or s (at + 4 + k) 0 ≡ get_or s (at + n) 0
    there k n h = let i : at + 4 + k ≡ at + n = omega arith in ap (λ i. get_or s i 0) i

-- a bit of the last byte, by its place
low_bit : (x b k : ℕ) → k < 8 → (x * 256 + b) / 2 ^ k % 2 ≡ b / 2 ^ k % 2
low_bit x b zero h = omega arith
low_bit x b (suc zero) h = omega arith
low_bit x b (suc (suc zero)) h = omega arith
low_bit x b (suc (suc (suc zero))) h = omega arith
low_bit x b (suc (suc (suc (suc zero)))) h = omega arith
low_bit x b (suc (suc (suc (suc (suc zero))))) h = omega arith
low_bit x b (suc (suc (suc (suc (suc (suc zero)))))) h = omega arith
low_bit x b (suc (suc (suc (suc (suc (suc (suc zero))))))) h = omega arith
low_bit x b (suc (suc (suc (suc (suc (suc (suc (suc k)))))))) h = absurd (omega arith)

module _ (s : List ℕ) (bytes : Bytes s) (at : ℕ) where
  -- bit k from the right of the n bytes is the image's bit 8 (at + n) - 1 - k
  word_bit : (n k p : ℕ) → p + k + 1 ≡ 8 * at + 8 * n → k < 8 * n → word_of s at n / 2 ^ k % 2 ≡ bit_of s p
  unfolding word_of bit_of
  word_bit zero k p e l = absurd (omega arith)
  word_bit (suc n) k p e l = elim (dec_lt k 8) [
    | yes h ↦
        let q : p / 8 ≡ at + n = omega arith in
        let r : 7 - p % 8 ≡ k = omega arith in
        rw (q, r) (low_bit (word_of s at n) (get_or s (at + n) 0) k h)
    | no h ↦
        let j : k ≡ 8 + (k - 8) = omega (arith, h) in
        let d : (word_of s at n * 256 + get_or s (at + n) 0) / 2 ^ 8 ≡ word_of s at n = omega (arith, bytes (at + n)) in
        rw (j, ← shr-shr (word_of s at n * 256 + get_or s (at + n) 0) 8 (k - 8), d)
        (word_bit n (k - 8) p (omega (arith, h)) (omega (arith, h)))
  ]

  -- the law: the w bits above the lowest k of the n bytes are the image's field of w bits at p
  pub word-field : (n w k p : ℕ) → p + w + k ≡ 8 * at + 8 * n → w + k ≤ 8 * n → word_of s at n / 2 ^ k % 2 ^ w ≡ field_of s p w
  unfolding field_of
  word-field n zero k p e l = omega arith
  word-field n (suc w) k p e l =
      let x = word_of s at n in
      let a : x / 2 ^ k % 2 ^ suc w ≡ (x / 2 ^ k / 2 ^ 1 % 2 ^ w) * 2 ^ 1 + x / 2 ^ k % 2 ^ 1 =
      rw (← add-one w) (mod-pow-add (x / 2 ^ k) w 1) in
      rw (a, shr-shr x k 1, word-field n w (k + 1) p (omega arith) (omega arith), word_bit n k (p + w) (omega arith) (omega arith))

-- the same, in the terms of the code: v are the n bytes of a record, and r is taken out of them
pub taken : (s : List ℕ) → Bytes s → (at n offset width low : ℕ) → offset + width + low ≡ 8 * n → {v r : ℕ} → v ≡ word_of s at n → r ≡ v / 2 ^ low % 2 ^ width
    → r ≡ field_of s (8 * at + offset) width
taken s bytes at n offset width low e h g = rw (g, h) (word-field s bytes at n width low (8 * at + offset) (omega arith) (omega arith))

-- the loop that loads the bytes: i are loaded, and v is what they write
pub record Loading (s : List ℕ) (at n v i : ℕ) : Type 0 where
  pub inside : i ≤ n
  pub value : v ≡ word_of s at i
  pub small : i < 8 → v < 2 ^ 56

pub loading_start : (s : List ℕ) (at n : ℕ) → Loading s at n 0 0
unfolding word_of
loading_start s at n = record { inside = omega arith; value = refl; small = λ _. omega arith }

pub loading_more : {s : List ℕ} {at n v i b : ℕ} → Bytes s → Loading s at n v i → i < n → b ≡ get_or s (at + i) 0 → Loading s at n (v * 256 + b) (i + 1)
loading_more {s} {at} {n} {v} {i} {b} h g l e =
    let q : v * 256 + b ≡ word_of s at (i + 1) = rw (word_more, g.value, e) in
    record {
      inside = omega arith;
      value = q;
      small = λ w. let p : 8 * (i + 1) ≤ 56 = omega arith in rw q (omega (arith, word_lt s h at (i + 1), pow_mono p));
    }

pub loading_done : {s : List ℕ} {at n v i : ℕ} → Loading s at n v i → n ≤ i → v ≡ word_of s at n
loading_done {s} {at} {n} {v} {i} g l = let e : i ≡ n = omega arith in rw (← e) g.value

-- the power by which `part` takes the remainder: it does not wrap
power : (w : ℕ) → w ≤ 20 → 1 * 2 ^ w % 2 ^ 64 ≡ 2 ^ w
power w h = rw one-mul (mod-eq_of_lt (omega (arith, pow_mono h)))

pub power_pos : (w : ℕ) → w ≤ 20 → 0 < 1 * 2 ^ w % 2 ^ 64
power_pos w h = rw (power w h) (pow_pos w)

pub part-is : (v low w : ℕ) → w ≤ 20 → v / 2 ^ low % (1 * 2 ^ w % 2 ^ 64) ≡ v / 2 ^ low % 2 ^ w
part-is v low w h = rw (power w h)

-- the bytes that `field` loads hold the field, and this is where in them
pub loaded : (s : List ℕ) → Bytes s → (place offset width : ℕ) {v r : ℕ}
    → v ≡ word_of s (place + offset / 8) ((offset % 8 + width + 7) / 8)
    → r ≡ v / 2 ^ (8 * ((offset % 8 + width + 7) / 8) - offset % 8 - width) % 2 ^ width → r ≡ field_of s (8 * place + offset) width
loaded s bytes place offset width h g =
    rw (g, h)
    (word-field s bytes (place + offset / 8) ((offset % 8 + width + 7) / 8) width (8 * ((offset % 8 + width + 7) / 8) - offset % 8 - width) (8 * place + offset) (omega arith) (omega arith))
