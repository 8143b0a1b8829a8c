-- A number of 16 bits is read as it was stored, and a store leaves what stands elsewhere.
use mathlib.Core.Path.{◌≡◌, refl, ◌∙◌}
use mathlib.Core.Bool.{Bool, true, false, cond}
use mathlib.Core.List.{List}
use Prim.Native.Nat.{ℕ, ◌+◌, ◌/◌, ◌%◌, ◌≤◌, ◌<◌}
use native.Mathlib.Omega.{arith}
use lib.Dec.{ltb}
use lib.ListN.{length, set, get_or, drop, length-set}
use lib.Seq.{get_or-set_same, get_or-set_other, drop-set-lt}
use borrow.Author.Tests.{lt-ltb}
use Rattle.image_fields.specs.Inside.Words.{word_of}
use Rattle.lent.specs.Inside.Stores.{set16, store16}
use Rattle.lent.proofs.PairLaws.{word_two}

abbrev high : List ℕ → ℕ → ℕ → List ℕ
high l at x = set l at (x / 256 % 256)

-- a byte that is none of the two
byte_kept : (l : List ℕ) (at x i : ℕ) → (at ≤ i → i ≤ at + 1 → ⊥) → get_or (store16 l at x) i 0 ≡ get_or l i 0
unfolding store16 set16
byte_kept l at x i h = go (ltb (at + 1) (length l))
  where
    go : (b : Bool) → get_or (cond b (set (set l at (x / 256 % 256)) (at + 1) (x % 256)) l) i 0 ≡ get_or l i 0
    go true =
        get_or-set_other (high l at x) (at + 1) i _ 0 (λ e. h (omega arith) (omega arith)) ∙ get_or-set_other l at i _ 0 (λ e. h (omega arith) (omega arith))
    go false = refl

half-kept : (l : List ℕ) (at x other : ℕ) → ((i : ℕ) → other ≤ i → i ≤ other + 1 → at ≤ i → i ≤ at + 1 → ⊥)
    → word_of (store16 l at x) other 2 ≡ word_of l other 2
half-kept l at x other h = rw (
  word_two (store16 l at x) other,
  word_two l other,
  byte_kept l at x other (h other (omega arith) (omega arith)),
  byte_kept l at x (other + 1) (h (other + 1) (omega arith) (omega arith)),
)

pub half-below : (l : List ℕ) (at x other : ℕ) → other + 2 ≤ at → word_of (store16 l at x) other 2 ≡ word_of l other 2
half-below l at x other h = half-kept l at x other (λ i a b c d. omega arith)

pub half_above : (l : List ℕ) (at x other : ℕ) → at + 2 ≤ other → word_of (store16 l at x) other 2 ≡ word_of l other 2
half_above l at x other h = half-kept l at x other (λ i a b c d. omega arith)

pub half-stored : (l : List ℕ) (at x : ℕ) → at + 2 ≤ length l → x < 65536 → word_of (store16 l at x) at 2 ≡ x
unfolding store16 set16
half-stored l at x h small =
    let first : get_or (set (high l at x) (at + 1) (x % 256)) at 0 ≡ x / 256 % 256 =
    get_or-set_other (high l at x) (at + 1) at _ 0 (λ e. omega arith) ∙ get_or-set_same l at _ 0 (omega arith) in
    let second : get_or (set (high l at x) (at + 1) (x % 256)) (at + 1) 0 ≡ x % 256 =
    get_or-set_same (high l at x) (at + 1) _ 0 (simp length-set (omega arith)) in
    rw (lt-ltb (at + 1) (length l) (omega arith), word_two (set (high l at x) (at + 1) (x % 256)) at, first, second) (omega arith)

-- what stands behind
pub store16-behind : (n : ℕ) (l : List ℕ) (at x : ℕ) → at + 2 ≤ n → drop n (store16 l at x) ≡ drop n l
unfolding store16 set16
store16-behind n l at x h = go (ltb (at + 1) (length l))
  where
    go : (b : Bool) → drop n (cond b (set (set l at (x / 256 % 256)) (at + 1) (x % 256)) l) ≡ drop n l
    go true = drop-set-lt n (high l at x) (at + 1) (x % 256) (omega arith) ∙ drop-set-lt n l at (x / 256 % 256) (omega arith)
    go false = refl

-- bytes that are zero
pub half_blank : (l : List ℕ) (at : ℕ) → get_or l at 0 ≡ 0 → get_or l (at + 1) 0 ≡ 0 → word_of l at 2 ≡ 0
half_blank l at h k = rw (word_two l at, h, k)
