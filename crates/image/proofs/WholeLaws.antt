-- The item table of an accepted image is the items of its expressions, one after the other.
use mathlib.Core.Path.{◌≡◌, refl, ap, sym, subst, ◌∙◌}
use mathlib.Core.List.{List, [], ◌∷◌, ◌++◌, append-nil, append_assoc}
use Prim.Native.Nat.{ℕ, zero, suc, ◌+◌, ◌-◌, ◌≤◌, ◌<◌}
use native.Mathlib.Nat.{add-zero, zero-add}
use native.Mathlib.Numerals.{add-one}
use native.Mathlib.Omega.{arith}
use native.Mathlib.Decide.{dec_lt}
use Rattle.semantics.specs.Base.{each}
use Rattle.semantics.specs.Tree.{item_at}
use Rattle.image_fields.specs.Image.{expr_count, name_count, item_total, first_of, count_of, item_of, expr_of, table, decode}
use Rattle.image_rules.specs.Rules.{has, name_presence, expr_presence}
use Rattle.image_tables.specs.Tables.{total}
use Rattle.image.specs.Inside.Accepted.{Accepted}
use Rattle.image_fields.proofs.ImageLaws.{tree-item}
use Rattle.image.proofs.AcceptedLaws.{item-has-name, item-below-owner}

table_append : {A : Type 0} (f : ℕ → A) (i m n : ℕ) → table f i (m + n) ≡ table f i m ++ table f (i + m) n
unfolding table
table_append f i zero n = rw (zero-add, add-zero)
table_append f i (suc m) n =
    let a : suc m + n ≡ suc (m + n) = omega arith in
    let b : i + suc m ≡ suc i + m = omega arith in
    rw (a, b) (ap (λ l. f i ∷ l) (table_append f (suc i) m n))

each_append : {A B : Type 0} (f : A → List B) (xs ys : List A) → each f (xs ++ ys) ≡ each f xs ++ each f ys
unfolding each
each_append f [] ys = refl
each_append f (x ∷ xs) ys = rw (each_append f xs ys) (sym (append_assoc (f x) (each f xs) (each f ys)))

each-one : {A B : Type 0} (f : A → List B) (x : A) → each f (x ∷ []) ≡ f x
unfolding each
each-one f x = append-nil (f x)

table-one : {A : Type 0} (f : ℕ → A) (k : ℕ) → table f k 1 ≡ f k ∷ []
unfolding table
table-one f k = refl

total-one : (f : ℕ → ℕ) (n : ℕ) → total f (suc n) ≡ total f n + f n
unfolding total
total-one f n = refl

-- one more at the end
table_snoc : {A : Type 0} (f : ℕ → A) (n : ℕ) → table f 0 (suc n) ≡ table f 0 n ++ f n ∷ []
table_snoc f n = ap (table f 0) (sym (add-one n)) ∙ table_append f 0 n 1 ∙ ap (λ l. table f 0 n ++ l) (last (0 + n) n (zero-add n))
  where
    last : (k m : ℕ) → k ≡ m → table f k 1 ≡ f m ∷ []
    last k m e = rw e (table-one f m)

no_items : (s : List ℕ) → each (λ x. x.items) (table (expr_of s) 0 0) ≡ table (item_of s) 0 (total (count_of s) 0)
unfolding table each total
no_items s = refl

module _ (s : List ℕ) (a : Accepted s) where
  so_far : (n : ℕ) → n ≤ expr_count s → each (λ x. x.items) (table (expr_of s) 0 n) ≡ table (item_of s) 0 (total (count_of s) n)
  so_far zero h = no_items s
  so_far (suc n) h =
      let st : first_of s n ≡ 0 + total (count_of s) n = a.starts n (omega arith) ∙ sym (zero-add _) in
      ap (each (λ x. x.items)) (table_snoc (expr_of s) n)
      ∙ each_append (λ x. x.items) (table (expr_of s) 0 n) (expr_of s n ∷ [])
      ∙ ap (λ l. l ++ each (λ x. x.items) (expr_of s n ∷ [])) (so_far n (omega arith))
      ∙ ap (λ l. table (item_of s) 0 (total (count_of s) n) ++ l) (each-one (λ x. x.items) (expr_of s n) ∙ ap (λ k. table (item_of s) k (count_of s n)) st)
      ∙ sym (table_append (item_of s) 0 (total (count_of s) n) (count_of s n))
      ∙ ap (table (item_of s) 0) (sym (total-one (count_of s) n))

  -- all items, in the order of their owners
  pub whole-items : each (λ x. x.items) (decode s).exprs ≡ table (item_of s) 0 (item_total s)
  unfolding decode
  whole-items = so_far (expr_count s) (omega arith) ∙ ap (table (item_of s) 0) a.whole

  -- every item of the table has an owner, and a place among the owner's items
  owned : {C : Type 0} (n i : ℕ) → n ≤ expr_count s → i < total (count_of s) n
      → ((e k : ℕ) → e < expr_count s → k < count_of s e → i ≡ first_of s e + k → C) → C
  unfolding total
  owned zero i h l f = absurd (omega arith)
  owned (suc n) i h l f =
      elim (dec_lt i (total (count_of s) n)) [
        | yes m ↦ owned n i (omega arith) m f
        | no m ↦ f n (i - total (count_of s) n) (omega arith) (omega (arith, m)) (omega (arith, m, a.starts n (omega arith)))
      ]

  pub item-owned : {C : Type 0} (i : ℕ) → i < item_total s → ((e k : ℕ) → e < expr_count s → k < count_of s e → i ≡ first_of s e + k → C) → C
  item-owned i l f = owned (expr_count s) i (omega arith) (rw (← a.whole) at l) f

  -- an item of the table in a role that has a name
  pub whole-named : (i : ℕ) → i < item_total s → name_presence (item_of s i).role ≡ has → (item_of s i).name < name_count s
  whole-named i l h =
      item-owned i l λ e k le lk q.
      let u : item_at (decode s) e k ≡ item_of s i = tree-item s e k le lk ∙ ap (item_of s) (sym q) in
      subst (λ it. it.name < name_count s) u (item-has-name s a e le k lk (subst (λ it. name_presence it.role ≡ has) (sym u) h))

  -- an item of the table in a role that has an expression: it is one of the image
  pub whole-owned : (i : ℕ) → i < item_total s → expr_presence (item_of s i).role ≡ has → (item_of s i).expression < expr_count s
  whole-owned i l h =
      item-owned i l λ e k le lk q.
      let u : item_at (decode s) e k ≡ item_of s i = tree-item s e k le lk ∙ ap (item_of s) (sym q) in
      let b = item-below-owner s a e le k lk (subst (λ it. expr_presence it.role ≡ has) (sym u) h) in
      subst (λ it. it.expression < expr_count s) u (omega (arith, b))
