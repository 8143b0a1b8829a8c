-- The levels of an expression are one more than the most below it, whatever the bound on the depth.
use mathlib.Core.Path.{◌≡◌, refl, sym, ap, ◌∙◌}
use mathlib.Core.Bool.{Bool, true, not}
use mathlib.Core.Logic.{⊎_elim}
use mathlib.Core.List.{List, [], ◌∷◌, map}
use Prim.Native.Nat.{ℕ, zero, suc, ◌+◌, ◌≤◌, ◌<◌}
use native.Mathlib.Omega.{arith}
use Rattle.semantics.specs.Base.{most, keep, All}
use Rattle.semantics.specs.Tree.{Tree, Item, is_none, expr_at}
use Rattle.semantics.specs.Scopes.{children}
use Rattle.semantics.specs.Order.{Below, Ordered}
use Rattle.semantics.proofs.BaseLaws.{true≢false, All_to, All-map, All-keep, map_cong}
use Rattle.levels.specs.Depth.{levels_in, levels_from}

-- what an expression's items name
abbrev pub named : Tree → ℕ → List ℕ
named t e = children t e (λ i. true)

levels_more : (t : Tree) (d e : ℕ) → levels_in t (suc d) e ≡ 1 + most (map (levels_in t d) (named t e))
unfolding levels_in
levels_more t d e = refl

most-few : (f : ℕ → ℕ) (d : ℕ) → ((c : ℕ) → f c ≤ d) → (l : List ℕ) → most (map f l) ≤ d
unfolding most
most-few f d h [] = omega arith
most-few f d h (c ∷ l) = omega (arith, h c, most-few f d h l)

levels_few : (t : Tree) (d e : ℕ) → levels_in t d e ≤ d
unfolding levels_in
levels_few t zero e = omega arith
levels_few t (suc d) e = omega (arith, most-few (levels_in t d) d (levels_few t d) (named t e))

pub from-few : (t : Tree) (e : ℕ) → levels_from t e ≤ e + 1
unfolding levels_from
from-few t e = omega (arith, levels_few t (suc e) e)

not_none : (b : Bool) → not b ≡ true → b ≡ true → ⊥
not_none b h e = true≢false (rw e at h) refl

module _ (t : Tree) (o : Ordered t) where
  -- numbers fall on the way down
  pub named-below : (e : ℕ) → All (λ c. c < e) (named t e)
  unfolding children
  named-below e =
      All-map (λ c. c < e) (λ (i : Item). i.expression) (keep (λ i. not (is_none i.expression)) (expr_at t e).items)
      (All-keep (Below e) (λ i. i.expression < e) (λ i. not (is_none i.expression)) (expr_at t e).items
      (λ i h b. ⊎_elim (λ l. l) (λ n. absurd (not_none _ h n.0)) b) (o.items e))

  levels_any : (d f e : ℕ) → e < d → e < f → levels_in t d e ≡ levels_in t f e
  levels_any zero f e h k = absurd (omega arith)
  levels_any (suc d) zero e h k = absurd (omega arith)
  levels_any (suc d) (suc f) e h k =
      levels_more t d e
      ∙ ap (λ l. 1 + most l) (map_cong (levels_in t d) (levels_in t f) (named t e)
      (All_to (λ c. c < e) (λ c. levels_in t d c ≡ levels_in t f c) (named t e) (λ c l. levels_any d f c (omega arith) (omega arith)) (named-below e)))
      ∙ sym (levels_more t f e)

  -- the equation without a bound
  pub levels_are : (e : ℕ) → levels_from t e ≡ 1 + most (map (levels_from t) (named t e))
  unfolding levels_from
  levels_are e =
      levels_more t e e
      ∙ ap (λ l. 1 + most l) (map_cong (levels_in t e) (levels_from t) (named t e)
      (All_to (λ c. c < e) (λ c. levels_in t e c ≡ levels_from t c) (named t e) (λ c l. levels_any e (suc c) c l (omega arith)) (named-below e)))
