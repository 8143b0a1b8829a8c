-- Numbers of 16 bits by their place: one is read as it was stored, and a store leaves the others.
use mathlib.Core.Path.{◌≡◌}
use mathlib.Core.List.{List}
use Prim.Native.Nat.{ℕ, ◌+◌, ◌*◌, ◌<◌}
use native.Mathlib.Omega.{arith}
use native.Mathlib.Decide.{dec_lt}
use lib.ListN.{length}
use Rattle.lent.specs.Inside.Stores.{store16}
use Rattle.lent.proofs.HalfLaws.{half-below, half_above, half-stored}
use Rattle.resolve_laws.specs.Inside.Logged.{half}

pub half-other : (l : List ℕ) (i j x : ℕ) → (i ≡ j → ⊥) → half (store16 l (2 * j) x) i ≡ half l i
half-other l i j x h = elim (dec_lt i j) [
  | yes g ↦ half-below l (2 * j) x (2 * i) (omega (arith, g))
  | no g ↦ half_above l (2 * j) x (2 * i) (omega (arith, g, h))
]

pub half-same : (l : List ℕ) (i x : ℕ) → 2 * i + 1 < length l → x < 65536 → half (store16 l (2 * i) x) i ≡ x
half-same l i x h small = half-stored l (2 * i) x (omega arith) small
