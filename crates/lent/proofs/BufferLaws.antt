-- Laws of stores into a table of numbers of 16 bits, and of zeroing.
use mathlib.Core.Path.{◌≡◌, refl, ap, sym, ◌∙◌}
use Prim.Native.Nat.{ℕ, zero, suc, ◌+◌, ◌*◌, ◌/◌, ◌%◌, ◌-◌, ◌≤◌, ◌<◌}
use native.Mathlib.Omega.{arith}
use mathlib.Core.Bool.{Bool, true, false, cond}
use mathlib.Core.List.{List, [], ◌∷◌, ◌++◌, append_assoc}
use native.Mathlib.Nat.{add-zero}
use native.Mathlib.Numerals.{add-one}
use mir.Syntax.{w16, w32}
use lib.Dec.{ltb}
use lib.ListN.{length, set, take, drop, length-set, length-append, take-append-drop}
use lib.Seq.{take-suc-set, drop-set-lt}
use Rattle.std.proofs.Common.{drop-drop}
use borrow.Rule.Slice.PartMut.{put_mid}
use Rattle.std.specs.Int.{to_be_bytes}
use borrow.Author.Tests.{lt-ltb, le-leb, lt-leb}
use Rattle.lent.specs.Inside.Stores.{written, stored, set16, store16, set32, store32, pairs}

pub length_pairs : (xs : List ℕ) → length (pairs xs) ≡ 2 * length xs
unfolding pairs
length_pairs [] = refl
length_pairs (x ∷ xs) = omega (arith, length_pairs xs)

set-pairs : (xs r : List ℕ) (m x : ℕ) → m < length xs → set16 (pairs xs ++ r) (2 * m) x ≡ pairs (set xs m x) ++ r
unfolding pairs set16
set-pairs [] r m x h = absurd (omega arith)
set-pairs (y ∷ ys) r zero x h = refl
set-pairs (y ∷ ys) r (suc m) x h =
    let a : 2 * suc m ≡ suc (suc (2 * m)) = omega arith in
    let b : suc (suc (2 * m)) + 1 ≡ suc (suc (2 * m + 1)) = omega arith in
    rw (a, b) (ap (λ l. y / 256 % 256 ∷ y % 256 ∷ l) (set-pairs ys r m x (omega arith)))

-- the bytes stand between what is in front of them and what is behind
written-between : (l : List ℕ) (at : ℕ) (bs : List ℕ) → at + length bs ≤ length l → written l at bs ≡ take at l ++ (bs ++ drop (at + length bs) l)
unfolding written
written-between l at [] h = rw add-zero (sym (take-append-drop at l))
written-between l at (b ∷ bs) h =
    let e : at + 1 + length bs ≡ at + suc (length bs) = omega arith in
    let n : at + 1 + length bs ≤ length (set l at b) = omega (arith, length-set l at b) in
    let t : take (at + 1) (set l at b) ≡ take at l ++ b ∷ [] = rw add-one (take-suc-set l at b (omega arith)) in
    let d : drop (at + 1 + length bs) (set l at b) ≡ drop (at + suc (length bs)) l = drop-set-lt (at + 1 + length bs) l at b (omega arith) ∙ ap (λ i. drop i l) e in
    written-between (set l at b) (at + 1) bs n ∙ rw (t, d) (append_assoc (take at l) (b ∷ []) (bs ++ drop (at + suc (length bs)) l))

-- a store that finds room is made, one that finds none changes nothing
pub with_room : (l : List ℕ) (at : ℕ) (bs now : List ℕ) → now ≡ bs → at + length bs ≤ length l → put_mid at (at + length bs - at) l now ≡ stored l at bs
unfolding stored
with_room l at bs now e h =
    let k : at + length bs - at ≡ length bs = omega arith in
    let d : drop (length bs) (drop at l) ≡ drop (at + length bs) l = drop-drop (length bs) at l in
    rw (le-leb (at + length bs) (length l) h, written-between l at bs h, e, k, d)

pub without_room : (l : List ℕ) (at : ℕ) (bs : List ℕ) → length l < at + length bs → l ≡ stored l at bs
unfolding stored
without_room l at bs h = rw (lt-leb (at + length bs) (length l) h)

-- the bytes of 16 bits, of 32
pub two_stored : (l : List ℕ) (at x : ℕ) → stored l at (to_be_bytes w16 (x % 65536)) ≡ store16 l at x
unfolding stored written store16 set16
two_stored l at x =
    let a : x % 65536 / 256 % 256 ≡ x / 256 % 256 = omega arith in
    let b : x % 65536 % 256 ≡ x % 256 = omega arith in
    let e : at + 2 ≡ suc (at + 1) = omega arith in
    rw (a, b, e)

pub four_stored : (l : List ℕ) (at x : ℕ) → stored l at (to_be_bytes w32 (x % 4294967296)) ≡ store32 l at x
unfolding stored written store32 set32
four_stored l at x =
    let a : x % 4294967296 / 16777216 % 256 ≡ x / 16777216 % 256 = omega arith in
    let b : x % 4294967296 / 65536 % 256 ≡ x / 65536 % 256 = omega arith in
    let c : x % 4294967296 / 256 % 256 ≡ x / 256 % 256 = omega arith in
    let d : x % 4294967296 % 256 ≡ x % 256 = omega arith in
    let e : at + 4 ≡ suc (at + 3) = omega arith in
    let i : at + 1 + 1 ≡ at + 2 = omega arith in
    let j : at + 2 + 1 ≡ at + 3 = omega arith in
    rw (a, b, c, d, e, i, j)

-- a number stored at its place in a table
pub store_pairs : (xs r : List ℕ) (m x : ℕ) → m < length xs → store16 (pairs xs ++ r) (2 * m) x ≡ pairs (set xs m x) ++ r
unfolding store16
store_pairs xs r m x h =
    rw (lt-ltb (2 * m + 1) (length (pairs xs ++ r)) (omega (arith, length-append (pairs xs) r, length_pairs xs))) (set-pairs xs r m x h)

pub length-store16 : (l : List ℕ) (at x : ℕ) → length (store16 l at x) ≡ length l
unfolding store16 set16
length-store16 l at x = go (ltb (at + 1) (length l))
  where
    go : (b : Bool) → length (cond b (set (set l at (x / 256 % 256)) (at + 1) (x % 256)) l) ≡ length l
    go true = length-set (set l at (x / 256 % 256)) (at + 1) (x % 256) ∙ length-set l at (x / 256 % 256)
    go false = refl
