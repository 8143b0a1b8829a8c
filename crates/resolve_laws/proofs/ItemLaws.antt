-- Bindings in the order of their items: those visited outside and those visited inside weigh what all but role 6 weigh.
use mathlib.Core.Path.{◌≡◌, refl, sym, ap, ◌∙◌}
use mathlib.Core.Bool.{Bool, true, false, not, cond, ◌&&◌, ◌||◌}
use mathlib.Core.List.{List, [], ◌∷◌, ◌++◌, map}
use Prim.Native.Nat.{ℕ, ◌+◌}
use native.Mathlib.Omega.{arith}
use lib.Dec.{eqb}
use borrow.Author.Tests.{eqb-true}
use Rattle.semantics.specs.Base.{keep, listed, only, sum}
use Rattle.semantics.specs.Tree.{Tree, Item, is_none, expr_at}
use Rattle.semantics.specs.Scopes.{children, inherited, enclosed}
use Rattle.resolve_laws.specs.Inside.Counts.{weigh}
use Rattle.resolve_laws.proofs.CountLaws.{weigh-++}

one : (w : ℕ → ℕ) (b : Bool) (i : Item) → weigh w (map (λ j. j.expression) (listed (only b i))) ≡ cond b (w i.expression) 0
unfolding weigh sum listed only
one w true i = omega arith
one w false i = refl

map_app : (a b : List Item) → map (λ j. j.expression) (a ++ b) ≡ map (λ j. j.expression) a ++ map (λ j. j.expression) b
map_app [] b = refl
map_app (i ∷ a) b = ap (λ z. i.expression ∷ z) (map_app a b)

keep-weigh : (w : ℕ → ℕ) (p : Item → Bool) (i : Item) (l : List Item)
    → weigh w (map (λ j. j.expression) (keep p (i ∷ l))) ≡ cond (p i) (w i.expression) 0 + weigh w (map (λ j. j.expression) (keep p l))
unfolding keep
keep-weigh w p i l =
    ap (weigh w) (map_app (listed (only (p i) i)) (keep p l))
    ∙ weigh-++ w (map (λ j. j.expression) (listed (only (p i) i))) (map (λ j. j.expression) (keep p l))
    ∙ ap (λ z. z + weigh w (map (λ j. j.expression) (keep p l))) (one w (p i) i)

nil_weigh : (w : ℕ → ℕ) (p q r : Item → Bool) → weigh w (map (λ j. j.expression) (keep p [])) + weigh w (map (λ j. j.expression) (keep q [])) ≡ weigh w (map (λ j. j.expression) (keep r []))
unfolding keep weigh sum
nil_weigh w p q r = refl

four : (a b c d e f : ℕ) → a + c ≡ e → b + d ≡ f → a + b + (c + d) ≡ e + f
four a b c d e f h k = omega (arith, h, k)

pub keeps : (w : ℕ → ℕ) (p q r : Item → Bool) → ((i : Item) (x : ℕ) → cond (p i) x 0 + cond (q i) x 0 ≡ cond (r i) x 0) → (l : List Item)
    → weigh w (map (λ j. j.expression) (keep p l)) + weigh w (map (λ j. j.expression) (keep q l)) ≡ weigh w (map (λ j. j.expression) (keep r l))
keeps w p q r h [] = nil_weigh w p q r
keeps w p q r h (i ∷ l) =
    ap (λ z. z + weigh w (map (λ j. j.expression) (keep q (i ∷ l)))) (keep-weigh w p i l)
    ∙ ap (λ z. cond (p i) (w i.expression) 0 + weigh w (map (λ j. j.expression) (keep p l)) + z) (keep-weigh w q i l)
    ∙ four (cond (p i) (w i.expression) 0) (weigh w (map (λ j. j.expression) (keep p l))) (cond (q i) (w i.expression) 0) (weigh w (map (λ j. j.expression) (keep q l)))
    (cond (r i) (w i.expression) 0) (weigh w (map (λ j. j.expression) (keep r l))) (h i (w i.expression)) (keeps w p q r h l)
    ∙ sym (keep-weigh w r i l)

unfoldable pub not_six : Item → Bool
not_six i = not (eqb i.role 6)

cases : (a b c : Bool) (x : ℕ) → (a ≡ true → b ≡ true → ⊥) → cond (a && c) x 0 + cond (not (a || b) && c) x 0 ≡ cond (not b && c) x 0
cases true true c x h = absurd (h refl refl)
cases true false true x h = omega arith
cases true false false x h = omega arith
cases false true c x h = omega arith
cases false false c x h = omega arith

-- THE LAW
pub bindings-weigh : (t : Tree) (w : ℕ → ℕ) (e : ℕ) → weigh w (children t e inherited ++ children t e enclosed) ≡ weigh w (children t e not_six)
unfolding children inherited enclosed not_six
bindings-weigh t w e =
    weigh-++ w (children t e inherited) (children t e enclosed)
    ∙ keeps w (λ i. inherited i && not (is_none i.expression)) (λ i. enclosed i && not (is_none i.expression)) (λ i. not_six i && not (is_none i.expression))
    (λ i x. cases (eqb i.role 5) (eqb i.role 6) (not (is_none i.expression)) x
    (λ p q. let z : i.role ≡ 5 = eqb-true i.role 5 p in let y : i.role ≡ 6 = eqb-true i.role 6 q in omega (arith, z, y)))
    (expr_at t e).items
