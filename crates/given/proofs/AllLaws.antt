-- `all` over a range, in the terms of the code.
use mathlib.Core.Path.{◌≡◌, refl, ap, ◌∙◌}
use mathlib.Core.Bool.{Bool, true, false, ◌&&◌}
use Prim.Native.Nat.{ℕ, zero, suc, ◌+◌}
use native.Mathlib.Omega.{arith}
use Rattle.std.specs.List.{list_all, range_with_len}
use Rattle.semantics.specs.Base.{all}

one : (b : Bool) → (b && true) ≡ b
one true = refl
one false = refl

assoc : (a b c : Bool) → (a && (b && c)) ≡ ((a && b) && c)
assoc true b c = refl
assoc false b c = refl

last : (p : ℕ → Bool) (a n : ℕ) → list_all p (range_with_len a (suc n)) ≡ (list_all p (range_with_len a n) && p (a + n))
last p a zero = let e : a + 0 ≡ a = omega arith in rw e (one (p a))
last p a (suc n) =
    let e : a + suc n ≡ a + 1 + n = omega arith in
    rw e (ap (λ b. p a && b) (last p (a + 1) n) ∙ assoc (p a) (list_all p (range_with_len (a + 1) n)) (p (a + 1 + n)))

pub all_listed : (p : ℕ → Bool) (n : ℕ) → list_all p (range_with_len 0 n) ≡ all p n
unfolding all
all_listed p zero = refl
all_listed p (suc n) = let e : 0 + n ≡ n = omega arith in last p 0 n ∙ rw e (ap (λ b. b && p n) (all_listed p n))
