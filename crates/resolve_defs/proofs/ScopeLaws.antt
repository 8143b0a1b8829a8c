-- Which expressions make a scope, and which children are inside it, by the kind of the expression.
use mathlib.Core.Path.{◌≡◌, refl, ap, sym, ◌∙◌}
use mathlib.Core.Logic.{inl, inr, ⊎_elim}
use mathlib.Core.Bool.{Bool, true, false, not, ◌&&◌, ◌||◌}
use mathlib.Core.List.{List, [], ◌∷◌, ◌++◌, map}
use Prim.Native.Nat.{ℕ, suc, ◌+◌, ◌≤◌, ◌<◌}
use native.Mathlib.Omega.{arith}
use lib.ListN.{length, get_or}
use Rattle.std.specs.List.{list_any, range_with_len}
use borrow.Author.Tests.{ne_eqb}
use Rattle.semantics.specs.Base.{empty, keep, listed, only, All}
use Rattle.semantics.specs.Tree.{Tree, Item, no_item, is_none, expr_at, item_at, is_kind}
use Rattle.semantics.specs.Scopes.{defines, defined, makes, children, inherited, enclosed}
use Rattle.semantics.proofs.BaseLaws.{All-places}
use Rattle.image_fields.specs.Image.{expr_count, count_of, decode}
use Rattle.image.specs.Inside.Accepted.{Accepted}
use Rattle.image_fields.proofs.ImageLaws.{tree-items}
use Rattle.image.proofs.RoleLaws.{field-kind, static_kind}
use Rattle.resolve_defs.proofs.DefinitionLaws.{of_other}

-- `defines_any`: whether one of some items defines a name
module _ (t : Tree) where
  pub any-defined : List Item → Bool
  any-defined is = not (empty (map (λ i. i.name) (keep (defines t) is)))

  any_cons : (i : Item) (is : List Item) → any-defined (i ∷ is) ≡ (defines t i || any-defined is)
  unfolding any-defined keep listed only empty
  any_cons i is = go (defines t i)
    where
      go : (b : Bool) → not (empty (map (λ j. j.name) (listed (only b i) ++ keep (defines t) is))) ≡ (b || any-defined is)
      go true = refl
      go false = refl

  -- a test of the numbers of a range, of which each stands for an item
  any-from : (q : ℕ → Bool) (is : List Item) (from : ℕ) → ((k : ℕ) → k < length is → q (from + k) ≡ defines t (get_or is k no_item))
      → list_any q (range_with_len from (length is)) ≡ any-defined is
  unfolding any-defined keep empty
  any-from q [] from h = refl
  any-from q (i ∷ is) from h =
      let first : q from ≡ defines t i = ap q (omega arith) ∙ h 0 (omega arith) in
      let others : list_any q (range_with_len (from + 1) (length is)) ≡ any-defined is = any-from q is (from + 1) (λ k m. ap q (omega arith) ∙ h (suc k) (omega arith)) in
      ap (λ b. b || list_any q (range_with_len (from + 1) (length is))) first ∙ ap (λ b. defines t i || b) others ∙ sym (any_cons i is)

  pub any-item : (q : ℕ → Bool) (e : ℕ) {count : ℕ} → count ≡ length (expr_at t e).items → ((k : ℕ) → k < count → q k ≡ defines t (item_at t e k))
      → list_any q (range_with_len 0 count) ≡ not (empty (defined t e))
  unfolding any-defined defined item_at
  any-item q e n h = rw n (any-from q (expr_at t e).items 0 (λ k m. ap q (omega arith) ∙ h k (omega (arith, n))))

module _ {A : Type 0} where
  nothing-kept : (p : A → Bool) (l : List A) → All (λ a. p a ≡ false) l → keep p l ≡ []
  unfolding keep listed only
  nothing-kept p [] h = refl
  nothing-kept p (x ∷ l) h = rw h.0 (nothing-kept p l h.1)

  pub keep_same : (p q : A → Bool) (l : List A) → All (λ a. p a ≡ q a) l → keep p l ≡ keep q l
  unfolding keep
  keep_same p q [] h = refl
  keep_same p q (x ∷ l) h = rw (h.0, keep_same p q l h.1)

-- `makes_scope`
module _ (t : Tree) (e : ℕ) {kind : ℕ} (k : kind ≡ (expr_at t e).kind) where
  pub of_with : kind ≡ 13 → true ≡ makes t e
  unfolding makes is_kind
  of_with h = rw (← k, h)

  pub of_defined : (kind ≡ 13 → ⊥) → {r : Bool} → r ≡ not (empty (defined t e)) → r ≡ makes t e
  unfolding makes is_kind
  of_defined h d = rw (← k, ne_eqb kind 13 h) d

module _ (s : List ℕ) (a : Accepted s) (e : ℕ) (l : e < expr_count s) where
  -- what holds of every item by its place
  pub each_item : (P : Item → Type 0) → ((k : ℕ) → k < count_of s e → P (item_at (decode s) e k)) → All P (expr_at (decode s) e).items
  unfolding item_at
  each_item P h = All-places P (expr_at (decode s) e).items no_item (λ k m. h k (rw (tree-items s e l) at m))

  pub no_static : ((expr_at (decode s) e).kind ≡ 5 → ⊥) → ((expr_at (decode s) e).kind ≡ 8 → ⊥) → (k : ℕ) → k < count_of s e → 4 ≤ (item_at (decode s) e k).role → (item_at (decode s) e k).role ≤ 6 → ⊥
  no_static five eight k m low high = ⊎_elim five eight (static_kind s a e l k m low high)

  -- outside a LetIn and an AttrSet no item is a static, so all are enclosed
  pub all-enclosed : ((expr_at (decode s) e).kind ≡ 5 → ⊥) → ((expr_at (decode s) e).kind ≡ 8 → ⊥)
      → children (decode s) e enclosed ≡ children (decode s) e (λ i. true)
  unfolding children enclosed inherited
  all-enclosed five eight = ap (map (λ i. i.expression)) (keep_same _ _ _ (each_item _ here))
    where
      here : (k : ℕ) → k < count_of s e
          → (enclosed (item_at (decode s) e k) && not (is_none (item_at (decode s) e k).expression)) ≡ not (is_none (item_at (decode s) e k).expression)
      here k m =
          let no = no_static five eight k m in
          rw (ne_eqb (item_at (decode s) e k).role 5 (λ h. no (omega arith) (omega arith)), ne_eqb (item_at (decode s) e k).role 6 (λ h. no (omega arith) (omega arith)))

  -- only a Lambda, a LetIn and an AttrSet define names
  pub undefined : ((expr_at (decode s) e).kind ≡ 4 → ⊥) → ((expr_at (decode s) e).kind ≡ 5 → ⊥) → ((expr_at (decode s) e).kind ≡ 8 → ⊥) → defined (decode s) e ≡ []
  unfolding defined
  undefined four five eight = ap (map (λ i. i.name)) (nothing-kept (defines (decode s)) (expr_at (decode s) e).items (each_item _ here))
    where
      here : (k : ℕ) → k < count_of s e → defines (decode s) (item_at (decode s) e k) ≡ false
      here k m =
          sym (of_other (decode s) (item_at (decode s) e k) refl (λ h. four (field-kind s a e l k m (inr h))) (λ h. four (field-kind s a e l k m (inl h))) (no_static five eight k m))

  -- only these and a With make a scope
  pub unmade : ((expr_at (decode s) e).kind ≡ 4 → ⊥) → ((expr_at (decode s) e).kind ≡ 5 → ⊥) → ((expr_at (decode s) e).kind ≡ 8 → ⊥)
      → ((expr_at (decode s) e).kind ≡ 13 → ⊥) → makes (decode s) e ≡ false
  unfolding makes is_kind empty
  unmade four five eight thirteen = rw (ne_eqb (expr_at (decode s) e).kind 13 thirteen, undefined four five eight)
