-- Laws of tables: the list of f i, f (i + 1), ..
use mathlib.Core.Path.{◌≡◌, refl, ap}
use Prim.Native.Nat.{ℕ, zero, suc, ◌+◌, ◌<◌}
use native.Mathlib.Nat.{zero-add, add-zero}
use native.Mathlib.Omega.{arith}
use lib.ListN.{length, get_or}
use Rattle.image_fields.specs.Image.{table}

pub table-length {ℓ} : {A : Type ℓ} (f : ℕ → A) (i n : ℕ) → length (table f i n) ≡ n
unfolding table
table-length f i zero = refl
table-length f i (suc n) = ap suc (table-length f (suc i) n)

pub table-from {ℓ} : {A : Type ℓ} (f : ℕ → A) (i n k : ℕ) (d : A) → k < n → get_or (table f i n) k d ≡ f (i + k)
unfolding table
table-from f i zero k d h = absurd (omega arith)
table-from f i (suc n) zero d h = rw add-zero
table-from f i (suc n) (suc k) d h =
    let g : k < n = omega arith in
    let e : i + suc k ≡ suc i + k = omega arith in
    rw e (table-from f (suc i) n k d g)

pub table_at {ℓ} : {A : Type ℓ} (f : ℕ → A) (n k : ℕ) (d : A) → k < n → get_or (table f 0 n) k d ≡ f k
table_at f n k d h = rw zero-add at (table-from f 0 n k d h)
