-- Numbers of which none stands twice: below n there are at most n.
use Rattle.std.specs.Prelude.{Option, None}
use mathlib.Core.Path.{◌≡◌, refl, sym, ◌∙◌}
use mathlib.Core.Bool.{Bool, true, false}
use mathlib.Core.List.{List, [], ◌∷◌, ◌++◌, map}
use Prim.Native.Nat.{ℕ, ◌≤◌, ◌<◌}
use native.Mathlib.Omega.{arith}
use lib.Dec.{eqb}
use lib.ListN.{length, length-map}
use borrow.Author.Tests.{eqb-true}
use Rattle.semantics.specs.Base.{only, or_else, first, All}
use Rattle.semantics.specs.Scopes.{ScopeVisit}
use Rattle.semantics.proofs.BaseLaws.{All-++, All-map}
use Rattle.resolve_laws.specs.Inside.Last.{entered, Once}
use Rattle.resolve_laws.proofs.RoomLaws.{once-few}

abbrev pub Distinct : List ℕ → Type 0
Distinct [] = Unit {0}
Distinct (z ∷ l) = All (λ w. w ≡ z → ⊥) l × Distinct l

pub distinct_snoc : (l : List ℕ) (x : ℕ) → Distinct l → All (λ w. w ≡ x → ⊥) l → Distinct (l ++ (x ∷ []))
distinct_snoc [] x d a = (tt, tt)
distinct_snoc (z ∷ l) x d a = (All-++ (λ w. w ≡ z → ⊥) l (x ∷ []) d.0 (λ e. a.0 (sym e), tt), distinct_snoc l x d.1 a.1)

-- as visits of which none is of the same expression
visit : ℕ → ScopeVisit
visit z = record { expr = z; scope = [] }

passed : {A : Type 0} (b : Bool) (a : A) (o : Option A) → (b ≡ true → ⊥) → or_else (only b a) o ≡ o
unfolding or_else only
passed true a o h = absurd (h refl)
passed false a o h = refl

absent : (y : ℕ) (r : List ℕ) → All (λ w. w ≡ y → ⊥) r → entered y (map visit r) ≡ None
unfolding visit entered first
absent y [] a = refl
absent y (w ∷ r) a = passed (eqb w y) (visit w) (entered y (map visit r)) (λ q. a.0 (eqb-true w y q)) ∙ absent y r a.1

once : (l : List ℕ) → Distinct l → Once (map visit l)
unfolding visit
once [] d = tt
once (z ∷ l) d = (absent z l d.0, once l d.1)

pub distinct_few : (n : ℕ) (l : List ℕ) → Distinct l → All (λ z. z < n) l → length l ≤ n
unfolding visit
distinct_few n l d a = omega (arith, once-few n (map visit l) (once l d) (All-map (λ v. v.expr < n) visit l a), length-map l visit)
