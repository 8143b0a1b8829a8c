-- Numbers of 32 bits are read as they were stored, and a store leaves what stands elsewhere.
use mathlib.Core.Path.{◌≡◌, refl, ◌∙◌}
use mathlib.Core.Bool.{Bool, true, false, cond}
use mathlib.Core.List.{List, ◌++◌}
use Prim.Native.Nat.{ℕ, zero, suc, ◌+◌, ◌*◌, ◌/◌, ◌%◌, ◌^◌, ◌≤◌, ◌<◌}
use native.Mathlib.Omega.{arith}
use lib.Dec.{ltb}
use lib.ListN.{length, set, get_or, replicate, length-set}
use lib.Seq.{get_or-set_same, get_or-set_other}
use borrow.Author.Tests.{lt-ltb}
use native.Mathlib.Nat.{add-zero, zero-add}
use Rattle.image_fields.specs.Image.{field_in}
use Rattle.image_fields.specs.Inside.Words.{word_of}
use Rattle.image_fields.proofs.FieldLaws.{Bytes, taken}
use Rattle.lent.specs.Inside.Stores.{set32, store32}

pub length-store32 : (l : List ℕ) (at x : ℕ) → length (store32 l at x) ≡ length l
unfolding store32 set32
length-store32 l at x = go (ltb (at + 3) (length l))
  where
    go : (b : Bool) → length (cond b (set32 l at x) l) ≡ length l
    go true = simp length-set
    go false = refl

-- after one, two, three of the four stores
abbrev one : List ℕ → ℕ → ℕ → List ℕ
one l at x = set l at (x / 16777216 % 256)

abbrev two : List ℕ → ℕ → ℕ → List ℕ
two l at x = set (one l at x) (at + 1) (x / 65536 % 256)

abbrev three : List ℕ → ℕ → ℕ → List ℕ
three l at x = set (two l at x) (at + 2) (x / 256 % 256)

-- a byte that is none of the four
set-kept : (l : List ℕ) (at x i : ℕ) → (at ≤ i → i ≤ at + 3 → ⊥) → get_or (set32 l at x) i 0 ≡ get_or l i 0
unfolding set32
set-kept l at x i h =
    get_or-set_other (three l at x) (at + 3) i _ 0 (λ e. h (omega arith) (omega arith))
    ∙ get_or-set_other (two l at x) (at + 2) i _ 0 (λ e. h (omega arith) (omega arith))
    ∙ get_or-set_other (one l at x) (at + 1) i _ 0 (λ e. h (omega arith) (omega arith))
    ∙ get_or-set_other l at i _ 0 (λ e. h (omega arith) (omega arith))

kept : (l : List ℕ) (at x i : ℕ) → (at ≤ i → i ≤ at + 3 → ⊥) → get_or (store32 l at x) i 0 ≡ get_or l i 0
unfolding store32
kept l at x i h = go (ltb (at + 3) (length l))
  where
    go : (b : Bool) → get_or (cond b (set32 l at x) l) i 0 ≡ get_or l i 0
    go true = set-kept l at x i h
    go false = refl

-- the number that four bytes write, byte by byte
four_bytes : (l : List ℕ) (at : ℕ) → word_of l at 4 ≡ ((get_or l at 0 * 256 + get_or l (at + 1) 0) * 256 + get_or l (at + 2) 0) * 256 + get_or l (at + 3) 0
unfolding word_of
four_bytes l at = rw (add-zero, zero-add)

fetch_kept : (l : List ℕ) (at x other : ℕ) → ((i : ℕ) → other ≤ i → i ≤ other + 3 → at ≤ i → i ≤ at + 3 → ⊥)
    → word_of (store32 l at x) other 4 ≡ word_of l other 4
fetch_kept l at x other h = rw (
  four_bytes (store32 l at x) other,
  four_bytes l other,
  byte other (omega arith) (omega arith),
  byte (other + 1) (omega arith) (omega arith),
  byte (other + 2) (omega arith) (omega arith),
  byte (other + 3) (omega arith) (omega arith),
)
  where
    byte : (i : ℕ) → other ≤ i → i ≤ other + 3 → get_or (store32 l at x) i 0 ≡ get_or l i 0
    byte i low high = kept l at x i (h i low high)

pub fetch_below : (l : List ℕ) (at x other : ℕ) → other + 4 ≤ at → word_of (store32 l at x) other 4 ≡ word_of l other 4
fetch_below l at x other h = fetch_kept l at x other (λ i a b c d. omega arith)

pub fetch_above : (l : List ℕ) (at x other : ℕ) → at + 4 ≤ other → word_of (store32 l at x) other 4 ≡ word_of l other 4
fetch_above l at x other h = fetch_kept l at x other (λ i a b c d. omega arith)

-- the four bytes
module _ (l : List ℕ) (at x : ℕ) (fits : at + 4 ≤ length l) where
  byte_0 : get_or (set32 l at x) at 0 ≡ x / 16777216 % 256
  unfolding set32
  byte_0 =
      get_or-set_other (three l at x) (at + 3) at _ 0 (λ e. omega arith)
      ∙ get_or-set_other (two l at x) (at + 2) at _ 0 (λ e. omega arith)
      ∙ get_or-set_other (one l at x) (at + 1) at _ 0 (λ e. omega arith)
      ∙ get_or-set_same l at _ 0 (omega arith)

  byte_1 : get_or (set32 l at x) (at + 1) 0 ≡ x / 65536 % 256
  unfolding set32
  byte_1 =
      get_or-set_other (three l at x) (at + 3) (at + 1) _ 0 (λ e. omega arith)
      ∙ get_or-set_other (two l at x) (at + 2) (at + 1) _ 0 (λ e. omega arith)
      ∙ get_or-set_same (one l at x) (at + 1) _ 0 (simp length-set (omega arith))

  byte_2 : get_or (set32 l at x) (at + 2) 0 ≡ x / 256 % 256
  unfolding set32
  byte_2 =
      get_or-set_other (three l at x) (at + 3) (at + 2) _ 0 (λ e. omega arith)
      ∙ get_or-set_same (two l at x) (at + 2) _ 0 (simp length-set (omega arith))

  byte_3 : get_or (set32 l at x) (at + 3) 0 ≡ x % 256
  unfolding set32
  byte_3 = get_or-set_same (three l at x) (at + 3) _ 0 (simp length-set (omega arith))

-- what they write
four : (x : ℕ) → x < 2 ^ 32 → ((x / 16777216 % 256 * 256 + x / 65536 % 256) * 256 + x / 256 % 256) * 256 + x % 256 ≡ x
four x h =
    let a : x / 16777216 % 256 * 256 + x / 65536 % 256 ≡ x / 65536 = omega arith in
    let b : x / 65536 * 256 + x / 256 % 256 ≡ x / 256 = omega arith in
    rw (a, b) (omega arith)

pub fetch_stored : (l : List ℕ) (at x : ℕ) → at + 4 ≤ length l → x < 2 ^ 32 → word_of (store32 l at x) at 4 ≡ x
unfolding store32
fetch_stored l at x h small =
    rw (four_bytes (store32 l at x) at, lt-ltb (at + 3) (length l) (omega arith), byte_0 l at x h, byte_1 l at x h, byte_2 l at x h, byte_3 l at x h) (four x small)

pub blank : (n i : ℕ) (r : List ℕ) → i < n → get_or {A = ℕ} (replicate n 0 ++ r) i 0 ≡ 0
blank zero i r h = absurd (omega arith)
blank (suc n) zero r h = refl
blank (suc n) (suc i) r h = blank n i r (omega arith)

-- bytes that were cleared
pub fetch_cleared : (n at : ℕ) (r : List ℕ) → at + 4 ≤ n → word_of (replicate n 0 ++ r) at 4 ≡ 0
fetch_cleared n at r h =
    rw (four_bytes (replicate n 0 ++ r) at, blank n at r (omega arith), blank n (at + 1) r (omega arith), blank n (at + 2) r (omega arith), blank n (at + 3) r (omega arith))

-- four bytes write a number of 32 bits
pub fetch_lt : (l : List ℕ) → Bytes l → (at : ℕ) → word_of l at 4 < 2 ^ 32
fetch_lt l b at = omega (arith, four_bytes l at, b at, b (at + 1), b (at + 2), b (at + 3))

-- a field of a record of four bytes, by the record's number
pub fetch_field : (l : List ℕ) → Bytes l → (at offset width low : ℕ) → offset + width + low ≡ 32 → {v r : ℕ} → v ≡ word_of l at 4 → r ≡ v / 2 ^ low % 2 ^ width
    → r ≡ field_in l at offset width
fetch_field l b at offset width low e h g = taken l b at 4 offset width low (omega arith) h g
