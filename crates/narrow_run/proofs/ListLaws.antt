-- Numbers of 32 bits stored one behind the other are the bytes of the records.
use mathlib.Core.Path.{◌≡◌, refl, ap, sym, ◌∙◌}
use mathlib.Core.List.{List, [], ◌∷◌, ◌++◌, map, append_assoc}
use Prim.Native.Nat.{ℕ, suc, ◌+◌, ◌*◌, ◌/◌, ◌%◌, ◌≤◌}
use native.Mathlib.Omega.{arith}
use lib.ListN.{length, drop, length-append}
use borrow.Author.Tests.{lt-ltb}
use Rattle.semantics.specs.Base.{each}
use Rattle.semantics.specs.Narrow.{Narrowing}
use Rattle.semantics.specs.Formats.{bytes_of, record_bytes}
use Rattle.lent.specs.Inside.Stores.{set32, store32}
use Rattle.narrow_leaf.specs.Inside.Told.{record_number}
use Rattle.narrow_run.specs.Inside.Run.{stored}

-- the bytes of a number, and of numbers one behind the other
abbrev pub four : ℕ → List ℕ → List ℕ
four x r = x / 16777216 % 256 ∷ x / 65536 % 256 ∷ x / 256 % 256 ∷ x % 256 ∷ r

unfoldable pub quads : List ℕ → List ℕ
quads [] = []
quads (x ∷ xs) = four x (quads xs)

behind : (p : List ℕ) (a b c d : ℕ) (r : List ℕ) (at x : ℕ) → at ≡ length p → set32 (p ++ a ∷ b ∷ c ∷ d ∷ r) at x ≡ p ++ four x r
unfolding set32
behind [] a b c d r at x e = rw e
behind (z ∷ p) a b c d r at x e =
    let i : suc (length p) + 1 ≡ suc (length p + 1) = omega arith in
    let j : suc (length p) + 2 ≡ suc (length p + 2) = omega arith in
    let k : suc (length p) + 3 ≡ suc (length p + 3) = omega arith in
    rw (e, i, j, k) (ap (λ l. z ∷ l) (behind p a b c d r (length p) x refl))

stored-behind : (xs p r : List ℕ) (k : ℕ) → length p ≡ 4 * k → 4 * length xs ≤ length r → stored xs k (p ++ r) ≡ p ++ (quads xs ++ drop (4 * length xs) r)
unfolding stored quads store32
stored-behind [] p r k e h = refl
stored-behind (x ∷ xs) p [] k e h = absurd (omega arith)
stored-behind (x ∷ xs) p (a ∷ []) k e h = absurd (omega arith)
stored-behind (x ∷ xs) p (a ∷ b ∷ []) k e h = absurd (omega arith)
stored-behind (x ∷ xs) p (a ∷ b ∷ c ∷ []) k e h = absurd (omega arith)
stored-behind (x ∷ xs) p (a ∷ b ∷ c ∷ d ∷ r) k e h =
    let z : 4 * suc (length xs) ≡ suc (suc (suc (suc (4 * length xs)))) = omega arith in
    let room = lt-ltb (4 * k + 3) (length (p ++ a ∷ b ∷ c ∷ d ∷ r)) (omega (arith, length-append p (a ∷ b ∷ c ∷ d ∷ r))) in
    let here : store32 (p ++ a ∷ b ∷ c ∷ d ∷ r) (4 * k) x ≡ (p ++ four x []) ++ r = rw room (behind p a b c d r (4 * k) x (sym e) ∙ sym (append_assoc p (four x []) r)) in
    let more : length (p ++ four x []) ≡ 4 * (k + 1) = omega (arith, length-append p (four x [])) in
    rw z
    (ap (stored xs (k + 1)) here
    ∙ stored-behind xs (p ++ four x []) r (k + 1) more (omega arith)
    ∙ append_assoc p (four x []) (quads xs ++ drop (4 * length xs) r))

pub stored-whole : (xs l : List ℕ) → 4 * length xs ≤ length l → stored xs 0 l ≡ quads xs ++ drop (4 * length xs) l
stored-whole xs l h = stored-behind xs [] l 0 (omega arith) h

pub four_bytes : (x : ℕ) → bytes_of 4 x ≡ four x []
unfolding bytes_of
four_bytes x =
    let a : x / 256 / 256 / 256 ≡ x / 16777216 = omega arith in
    let b : x / 256 / 256 ≡ x / 65536 = omega arith in
    rw (a, b)

-- numbers of which each is one record's
pub quads_each : {A : Type 0} (f : A → ℕ) (rs : List A) → quads (map f rs) ≡ each (λ r. bytes_of 4 (f r)) rs
unfolding quads each
quads_each f [] = refl
quads_each f (r ∷ rs) = rw (four_bytes (f r)) (ap (four (f r)) (quads_each f rs))

pub quads_bytes : (rs : List Narrowing) → quads (map record_number rs) ≡ each record_bytes rs
unfolding record_bytes record_number
quads_bytes rs = quads_each record_number rs
