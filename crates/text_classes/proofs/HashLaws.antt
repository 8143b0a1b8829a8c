-- The hash of a text and its slot, in the terms of the code.
use mathlib.Core.Path.{◌≡◌, sym, subst, ◌∙◌}
use Prim.Native.Nat.{ℕ, ◌-◌, ◌*◌, ◌/◌, ◌%◌, ◌^◌, ◌≤◌, ◌<◌}
use native.Mathlib.Omega.{arith}
use native.Mathlib.Nat.{mod-lt, mul-le-mul, mul-lt-mul_of_pos_right}
use lib.ListN.{length}
use borrow.Author.Tests.{lt-ltb, le-ltb}
use Rattle.semantics.specs.Tree.{Text}
use Rattle.image_fields.specs.Inside.Words.{word_of}
use Rattle.text_classes.specs.Inside.Hash.{mixed, hash_of, slot_of, Slot}

pub hash_short : (x : Text) {r w : ℕ} → length x < 4 → w ≡ word_of x 0 (length x) → r ≡ mixed (length x) w 0 → r ≡ hash_of x
unfolding hash_of
hash_short x l e q = rw (lt-ltb (length x) 4 l, q, e)

pub hash_long : (x : Text) {r u v at : ℕ} → 4 ≤ length x → u ≡ word_of x (length x - 4) 4 → v ≡ word_of x at 4 → at ≡ length x - 8 → r ≡ mixed (length x) u v → r ≡ hash_of x
unfolding hash_of
hash_long x l e f g q = rw (le-ltb (length x) 4 l, q, e, f, g)

pub slot_below : {slots : ℕ} (x : Text) → 0 < slots → slot_of slots x < slots
unfolding slot_of
slot_below {slots} x l =
    let m : hash_of x % 2 ^ 32 * slots < 2 ^ 32 * slots = mul-lt-mul_of_pos_right (mod-lt (hash_of x) (omega arith)) l in omega arith

pub slot_fits : {slots : ℕ} (h : ℕ) → slots ≤ 2 ^ 16 → h % 2 ^ 32 * slots ≤ 2 ^ 32 * 2 ^ 16
slot_fits {slots} h l =
    let v : h % 2 ^ 32 ≤ 2 ^ 32 = omega (arith, mod-lt h {m = 2 ^ 32} (omega arith)) in mul-le-mul v l

pub slot_at : {slots : ℕ} {x : Text} {h r : ℕ} → 0 < slots → h ≡ hash_of x → r ≡ h % 2 ^ 32 * slots / 2 ^ 32 → Slot slots x r
unfolding slot_of
slot_at {slots} {x} l q e = record { slot_is = e ∙ rw q; inside = subst (λ v. v < slots) (sym (e ∙ rw q)) (slot_below x l) }
