-- What was written item by item is read back: a field of the i-th item is that of its own bytes, and a record's fields are its numbers.
use Rattle.std.specs.Prelude.{Some, slice_get}
use mathlib.Core.Path.{◌≡◌, refl, sym, ◌∙◌}
use mathlib.Core.List.Memᴰ
use mathlib.Core.List.{List, [], ◌∷◌, ◌++◌, append_assoc}
use Prim.Native.Nat.{ℕ, zero, suc, ◌+◌, ◌*◌, ◌/◌, ◌%◌, ◌^◌, ◌≤◌, ◌<◌}
use native.Mathlib.Nat.{mul-suc, mul-zero}
use native.Mathlib.Omega.{arith}
use lib.ListN.{length, get_or-append}
use lib.Seq.{get_or-append-add}
use Rattle.semantics.specs.Base.{each, ◌∈◌}
use Rattle.semantics.specs.Narrow.{Narrowing, coded}
use Rattle.semantics.specs.Formats.{bytes_of, record_bytes}
use Rattle.semantics.proofs.BaseLaws.{clash, some_inj}
use Rattle.image_fields.specs.Bits.{bit_of, field_of}
use Rattle.image_fields.specs.Image.{field_in}
use Rattle.image_fields.specs.Inside.Words.{word_of}
use Rattle.image_fields.proofs.FieldLaws.{Bytes, taken}
use Rattle.lent.specs.Inside.Stores.{set32, store32}
use Rattle.lent.proofs.WordLaws.{fetch_stored}
use Rattle.narrow_run.proofs.ListLaws.{four, four_bytes}
use Rattle.narrow_run.proofs.RecordLaws.{Fits}

-- a field of what stands in front, and of what stands behind
bit_front : (l r : List ℕ) (p : ℕ) → p < 8 * length l → bit_of (l ++ r) p ≡ bit_of l p
unfolding bit_of
bit_front l r p h = rw (get_or-append l r 0 (p / 8) (omega arith))

pub field_front : (l r : List ℕ) (p w : ℕ) → p + w ≤ 8 * length l → field_of (l ++ r) p w ≡ field_of l p w
unfolding field_of
field_front l r p zero h = refl
field_front l r p (suc w) h = rw (field_front l r p w (omega arith), bit_front l r (p + w) (omega arith))

bit_behind : (l r : List ℕ) (p : ℕ) → bit_of (l ++ r) (8 * length l + p) ≡ bit_of r p
unfolding bit_of
bit_behind l r p =
    let a : (8 * length l + p) / 8 ≡ length l + p / 8 = omega arith in
    let b : (8 * length l + p) % 8 ≡ p % 8 = omega arith in
    rw (a, b, get_or-append-add l r (p / 8) 0)

pub field-behind : (l r : List ℕ) (p w : ℕ) → field_of (l ++ r) (8 * length l + p) w ≡ field_of r p w
unfolding field_of
field-behind l r p zero = refl
field-behind l r p (suc w) =
    let e : 8 * length l + p + w ≡ 8 * length l + (p + w) = omega arith in
    rw (field-behind l r p w, e, bit_behind l r (p + w))

-- an item by its number
pub item_there : {A : Type 0} (l : List A) (i : ℕ) → i < length l → (a : A) × (slice_get l i ≡ Some a)
item_there [] i h = absurd (omega arith)
item_there (x ∷ l) zero h = (x, refl)
item_there (x ∷ l) (suc i) h = item_there l i (omega arith)

pub item_in : {A : Type 0} (l : List A) (i : ℕ) {a : A} → slice_get l i ≡ Some a → a ∈ l
item_in [] i h = absurd (clash h)
item_in (x ∷ l) zero h = Memᴰ.head (sym (some_inj h))
item_in (x ∷ l) (suc i) h = Memᴰ.tail (item_in l i h)

-- items of n bytes each, one behind the other
module _ {A : Type 0} (f : A → List ℕ) (n : ℕ) (long : (a : A) → length (f a) ≡ n) where
  pub item-field : (l : List A) (rest : List ℕ) (i : ℕ) {a : A} → slice_get l i ≡ Some a → (p w : ℕ) → p + w ≤ 8 * n
      → field_of (each f l ++ rest) (8 * (n * i) + p) w ≡ field_of (f a) p w
  unfolding each
  item-field [] rest i h p w k = absurd (clash h)
  item-field (x ∷ l) rest zero h p w k =
      let e : 8 * (n * 0) + p ≡ p = rw (mul-zero n) (omega arith) in
      rw (e, append_assoc (f x) (each f l) rest, ← some_inj h) (field_front (f x) (each f l ++ rest) p w (rw (long x) k))
  item-field (x ∷ l) rest (suc i) h p w k =
      let e : 8 * (n * suc i) + p ≡ 8 * length (f x) + (8 * (n * i) + p) = rw (long x, mul-suc n i) (omega arith) in
      rw (e, append_assoc (f x) (each f l) rest) (field-behind (f x) (each f l ++ rest) (8 * (n * i) + p) w ∙ item-field l rest i h p w k)

-- a field of the four bytes of a number
four_small : (x : ℕ) → Bytes (four x [])
four_small x zero = omega arith
four_small x (suc zero) = omega arith
four_small x (suc (suc zero)) = omega arith
four_small x (suc (suc (suc zero))) = omega arith
four_small x (suc (suc (suc (suc i)))) = omega arith

four_word : (x : ℕ) → x < 2 ^ 32 → word_of (four x []) 0 4 ≡ x
unfolding store32 set32
four_word x h = fetch_stored (0 ∷ 0 ∷ 0 ∷ 0 ∷ []) 0 x (omega arith) h

pub four_field : (x : ℕ) → x < 2 ^ 32 → (p w low : ℕ) → p + w + low ≡ 32 → field_of (bytes_of 4 x) p w ≡ x / 2 ^ low % 2 ^ w
four_field x h p w low e =
    let z : 8 * 0 + p ≡ p = omega arith in
    rw (four_bytes x, ← z) (sym (taken (four x []) (four_small x) 0 4 p w low e (sym (four_word x h)) refl))

-- the record at a byte is that of a narrowing
pub record Reads (r : Narrowing) (l : List ℕ) (at : ℕ) : Type 0 where
  pub name : field_in l at 0 14 ≡ (coded r).0
  pub sort : field_in l at 14 4 ≡ (coded r).1
  pub value : field_in l at 18 14 ≡ (coded r).2

-- where a narrowing's record stands, its numbers are read
pub reads : {r : Narrowing} {l : List ℕ} {at : ℕ} → Fits r → ((p w : ℕ) → p + w ≤ 32 → field_in l at p w ≡ field_of (record_bytes r) p w) → Reads r l at
unfolding record_bytes
reads {r} {l} {at} f h =
    record {
      name = h 0 14 (omega arith) ∙ four_field _ small 0 14 18 (omega arith) ∙ omega (arith, f.name, f.sort, f.value);
      sort = h 14 4 (omega arith) ∙ four_field _ small 14 4 14 (omega arith) ∙ omega (arith, f.name, f.sort, f.value);
      value = h 18 14 (omega arith) ∙ four_field _ small 18 14 0 (omega arith) ∙ omega (arith, f.name, f.sort, f.value);
    }
  where
    small : ((coded r).0 * 2 ^ 4 + (coded r).1) * 2 ^ 14 + (coded r).2 < 2 ^ 32
    small = omega (arith, f.name, f.sort, f.value)
