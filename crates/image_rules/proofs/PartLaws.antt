-- The rule of an item as the one pass asks it is the three of an item: 6, 10 and 11.
use mathlib.Core.Path.{◌≡◌, refl, sym, ap, ◌∙◌}
use mathlib.Core.Bool.{Bool, true, false, ◌&&◌, ◌||◌}
use mathlib.Core.List.{List, [], ◌∷◌, map}
use Prim.Native.Nat.{ℕ, zero, suc, ◌≤◌, ◌<◌}
use native.Mathlib.Omega.{arith}
use native.Mathlib.Decide.{dec_lt, ℕ_discrete}
use lib.Dec.{eqb, ltb, leb}
use lib.ListN.{length}
use borrow.Author.Tests.{lt-ltb, le-ltb, eq-eqb, ne_eqb}
use Rattle.semantics.specs.Base.{every, all}
use Rattle.semantics.specs.Tree.{Tree, Item, is_none, expr_at}
use Rattle.semantics.proofs.BaseLaws.{and-false}
use Rattle.image_rules.specs.Rules.{Presence, has, may, has_not, fits, name_presence, expr_presence, item_stands, smaller, inherits, order, follows, items_stand, items_smaller, items_inherit}
use Rattle.image_rules.specs.Inside.Whole.{lower, item_fits, items_fit}

-- a number is below a bound, or none, as its role says, where it is there as its role says, and below the bound if it is there
fits-parts : (p : Presence) (bound x : ℕ) → bound ≤ 16383 → fits p bound x ≡ (fits p 16383 x && fits may bound x)
unfolding fits is_none
fits-parts has bound x l = elim (dec_lt x bound) [
  | yes h ↦ rw (lt-ltb x bound h, lt-ltb x 16383 (omega (arith, h)), ne_eqb x 16383 (λ e. absurd (omega (arith, h, e))))
  | no h ↦ elim (ℕ_discrete x 16383) [
    | yes e ↦ rw (le-ltb x bound (omega (arith, h)), le-ltb x 16383 (omega (arith, e)))
    | no n ↦ rw (le-ltb x bound (omega (arith, h)), ne_eqb x 16383 n, and-false)
  ]
]
fits-parts may bound x l = elim (dec_lt x bound) [
  | yes h ↦ rw (lt-ltb x bound h, lt-ltb x 16383 (omega (arith, h)), ne_eqb x 16383 (λ e. absurd (omega (arith, h, e))))
  | no h ↦ elim (ℕ_discrete x 16383) [
    | yes e ↦ rw (eq-eqb x 16383 e)
    | no n ↦ rw (le-ltb x bound (omega (arith, h)), ne_eqb x 16383 n, and-false)
  ]
]
fits-parts has_not bound x l = go (eqb x 16383)
  where
    go : (b : Bool) → b ≡ (b && (b || ltb x bound))
    go true = refl
    go false = refl

and_assoc : (a b c : Bool) → (a && (b && c)) ≡ ((a && b) && c)
and_assoc true b c = refl
and_assoc false b c = refl

module _ (t : Tree) (owner : ℕ) (few : owner ≤ 16383) where
  pub item-parts : (i : Item) → item_fits t owner i ≡ (item_stands (length t.names) i && smaller owner i && inherits t i)
  unfolding item_fits lower item_stands smaller
  item-parts i =
      ap (λ z. z && inherits t i)
      (ap (λ z. (leb i.role 10 && fits (name_presence i.role) (length t.names) i.name) && z) (fits-parts (expr_presence i.role) owner i.expression few)
      ∙ and_assoc (leb i.role 10 && fits (name_presence i.role) (length t.names) i.name) (fits (expr_presence i.role) 16383 i.expression) (fits may owner i.expression))

-- both of two tests, of one and of the others
crossed : (a b c d : Bool) → ((a && b) && (c && d)) ≡ ((a && c) && (b && d))
crossed false b c d = refl
crossed true true c d = refl
crossed true false c d = sym (and-false c)

every-both : (f p q : Item → Bool) → ((i : Item) → f i ≡ (p i && q i)) → (l : List Item) → every f l ≡ (every p l && every q l)
unfolding every
every-both f p q h [] = refl
every-both f p q h (i ∷ l) = rw (h i, every-both f p q h l) (crossed (p i) (q i) (every p l) (every q l))

pub all_both : (f p q : ℕ → Bool) (n : ℕ) → ((k : ℕ) → k < n → f k ≡ (p k && q k)) → all f n ≡ (all p n && all q n)
unfolding all
all_both f p q zero h = refl
all_both f p q (suc n) h = rw (all_both f p q n (λ k l. h k (omega arith)), h n (omega arith)) (crossed (all p n) (all q n) (p n) (q n))

-- the order of the items, asked last or with the first of three tests
moved : (a b c d : Bool) → (((a && b) && c) && d) ≡ (((a && d) && b) && c)
moved false b c d = refl
moved true false c d = sym (ap (λ z. z && c) (and-false d))
moved true true false d = sym (and-false (d && true))
moved true true true true = refl
moved true true true false = refl

pub items-parts : (t : Tree) (e : ℕ) → e ≤ 16383 → items_fit t e ≡ (items_stand t e && items_smaller t e && items_inherit t e)
unfolding items_fit items_stand items_smaller items_inherit
items-parts t e few =
    ap (λ z. z && follows (order (expr_at t e).kind) (map (λ i. i.role) (expr_at t e).items))
    (every-both (item_fits t e) (λ i. item_stands (length t.names) i && smaller e i) (inherits t) (item-parts t e few) (expr_at t e).items
    ∙ ap (λ z. z && every (inherits t) (expr_at t e).items) (every-both (λ i. item_stands (length t.names) i && smaller e i) (item_stands (length t.names)) (smaller e) (λ i. refl) (expr_at t e).items))
    ∙ moved (every (item_stands (length t.names)) (expr_at t e).items) (every (smaller e) (expr_at t e).items) (every (inherits t) (expr_at t e).items) (follows (order (expr_at t e).kind) (map (λ i. i.role) (expr_at t e).items))
