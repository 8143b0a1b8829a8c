-- The working list: what is stored behind what is in force is read again, and leaves what is in force.
use mathlib.Core.Path.{◌≡◌, refl, ap, sym, ◌∙◌}
use mathlib.Core.List.{List, [], ◌∷◌, ◌++◌, map, map-append}
use Prim.Native.Nat.{ℕ, zero, suc, ◌+◌, ◌*◌, ◌/◌, ◌%◌, ◌^◌, ◌≤◌, ◌<◌}
use native.Mathlib.Nat.{add-zero, zero-add}
use native.Mathlib.Omega.{arith}
use lib.ListN.{length, length-append, length-map}
use Rattle.image_fields.specs.Inside.Words.{word_of}
use Rattle.semantics.specs.Narrow.{Narrowing}
use Rattle.lent.specs.Inside.Stores.{set32, store32}
use Rattle.lent.proofs.WordLaws.{length-store32, fetch_below, fetch_stored}
use Rattle.narrow_leaf.specs.Inside.Told.{record_number}
use Rattle.narrow_run.specs.Inside.Run.{stored, Fed}
use Rattle.walk_visit.specs.Inside.Parts.{numbers_in}
use Rattle.walk_run.specs.Inside.Run.{Stands, Kept}

abbrev pub low : ℕ → ℕ
low x = x % 2 ^ 32

pub length-stored : (xs : List ℕ) (k : ℕ) (l : List ℕ) → length (stored xs k l) ≡ length l
unfolding stored
length-stored [] k l = refl
length-stored (x ∷ xs) k l = length-stored xs (k + 1) (store32 l (4 * k) x) ∙ length-store32 l (4 * k) x

-- only the low 32 bits are stored
store_low : (l : List ℕ) (at x : ℕ) → store32 l at (low x) ≡ store32 l at x
unfolding store32 set32
store_low l at x =
    let a : low x / 16777216 % 256 ≡ x / 16777216 % 256 = omega arith in
    let b : low x / 65536 % 256 ≡ x / 65536 % 256 = omega arith in
    let c : low x / 256 % 256 ≡ x / 256 % 256 = omega arith in
    let d : low x % 256 ≡ x % 256 = omega arith in
    rw (a, b, c, d)

pub stored_low : (xs : List ℕ) (k : ℕ) (l : List ℕ) → stored (map low xs) k l ≡ stored xs k l
unfolding stored
stored_low [] k l = refl
stored_low (x ∷ xs) k l = ap (stored (map low xs) (k + 1)) (store_low l (4 * k) x) ∙ stored_low xs (k + 1) (store32 l (4 * k) x)

fetch_low : (l : List ℕ) (at x : ℕ) → at + 4 ≤ length l → word_of (store32 l at x) at 4 ≡ low x
fetch_low l at x h = ap (λ z. word_of z at 4) (sym (store_low l at x)) ∙ fetch_stored l at (low x) h (omega arith)

stored-below : (xs : List ℕ) (k : ℕ) (l : List ℕ) (i : ℕ) → i < k → word_of (stored xs k l) (4 * i) 4 ≡ word_of l (4 * i) 4
unfolding stored
stored-below [] k l i h = refl
stored-below (x ∷ xs) k l i h = stored-below xs (k + 1) (store32 l (4 * k) x) i (omega arith) ∙ fetch_below l (4 * k) x (4 * i) (omega arith)

-- what was stored, read again
numbers-stored : (xs : List ℕ) (k : ℕ) (l : List ℕ) → 4 * (k + length xs) ≤ length l → numbers_in (stored xs k l) k (length xs) ≡ map low xs
unfolding stored numbers_in
numbers-stored [] k l h = refl
numbers-stored (x ∷ xs) k l h =
    let first : word_of (stored xs (k + 1) (store32 l (4 * k) x)) (4 * k) 4 ≡ low x =
    stored-below xs (k + 1) (store32 l (4 * k) x) k (omega arith) ∙ fetch_low l (4 * k) x (omega arith) in
    rw first (ap (λ r. low x ∷ r) (numbers-stored xs (k + 1) (store32 l (4 * k) x) (omega (arith, length-store32 l (4 * k) x))))

numbers-same : (w w' : List ℕ) (k n : ℕ) → ((i : ℕ) → i < k + n → word_of w' (4 * i) 4 ≡ word_of w (4 * i) 4) → numbers_in w' k n ≡ numbers_in w k n
unfolding numbers_in
numbers-same w w' k zero h = refl
numbers-same w w' k (suc n) h = rw (h k (omega arith)) (ap (λ r. word_of w (4 * k) 4 ∷ r) (numbers-same w w' (k + 1) n (λ i l. h i (omega arith))))

numbers_append : (w : List ℕ) (k n m : ℕ) → numbers_in w k (n + m) ≡ numbers_in w k n ++ numbers_in w (k + n) m
unfolding numbers_in
numbers_append w k zero m = rw (add-zero, zero-add)
numbers_append w k (suc n) m =
    let e : k + suc n ≡ k + 1 + n = omega arith in
    let f : suc n + m ≡ suc (n + m) = omega arith in
    rw (e, f) (ap (λ r. word_of w (4 * k) 4 ∷ r) (numbers_append w (k + 1) n m))

numbers_two : (w : List ℕ) (n m : ℕ) → numbers_in w 0 (n + m) ≡ numbers_in w 0 n ++ numbers_in w n m
numbers_two w n m = numbers_append w 0 n m ∙ ap (λ k. numbers_in w 0 n ++ numbers_in w k m) (zero-add n)

pub stands-nothing : (w : List ℕ) → Stands [] 0 w
unfolding numbers_in
stands-nothing w = record { number = refl; records = λ h. refl }

module _ {ns : List Narrowing} {force : ℕ} {w : List ℕ} (s : Stands ns force w) where
  pub stands-kept : {w' : List ℕ} → Kept force w w' → length w' ≡ length w → Stands ns force w'
  stands-kept {w'} k e =
      record {
        number = s.number;
        records = λ h. numbers-same w w' 0 force (λ i l. k i (omega arith)) ∙ s.records (omega (arith, e));
      }

  -- behind what is in force more is stored
  pub stands-more : (adds : List Narrowing) {inside : ℕ} {w' : List ℕ} → Fed (map record_number adds) force inside w w' → Stands (ns ++ adds) inside w'
  stands-more adds {inside} {w'} f =
      record {
        number = omega (arith, s.number, f.number, length-append ns adds, length-map adds record_number);
        records = λ h.
            let e : inside ≡ force + length (map record_number adds) = f.number in
            let same : length w' ≡ length w = ap length f.value ∙ length-stored (map record_number adds) force w in
            let room : 4 * (force + length (map record_number adds)) ≤ length w = omega (arith, e, same) in
            rw (e, f.value)
            (numbers_two (stored (map record_number adds) force w) force (length (map record_number adds))
            ∙ ap (λ r. r ++ numbers_in (stored (map record_number adds) force w) force (length (map record_number adds)))
            (numbers-same w (stored (map record_number adds) force w) 0 force (λ i l. stored-below (map record_number adds) force w i (omega arith)) ∙ s.records (omega (arith, room)))
            ∙ ap (λ r. map code ns ++ r) (numbers-stored (map record_number adds) force w room ∙ coded adds)
            ∙ sym (map-append code ns adds));
      }
    where
      code : Narrowing → ℕ
      code r = low (record_number r)

      coded : (rs : List Narrowing) → map low (map record_number rs) ≡ map code rs
      coded [] = refl
      coded (r ∷ rs) = ap (λ l. code r ∷ l) (coded rs)

pub kept-fed : {xs : List ℕ} {force inside : ℕ} {w w' : List ℕ} → Fed xs force inside w w' → Kept force w w'
kept-fed {xs} {force} {inside} {w} f i h = rw f.value (stored-below xs force w i h)
