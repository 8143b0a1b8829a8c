-- The texts of expressions, in the terms of the code.
use Rattle.std.specs.Prelude.{Option, Some, None}
use mathlib.Core.Path.{◌≡◌, refl, ap, ◌∙◌}
use mathlib.Core.Logic.{◌⊎◌, inl}
use mathlib.Core.Bool.{true, false, ◌&&◌}
use mathlib.Core.List.{List, [], ◌∷◌, ◌++◌, map}
use Prim.Native.Nat.{ℕ, zero, suc, ◌-◌, ◌<◌}
use native.Mathlib.Omega.{arith}
use lib.Dec.{ltb, leb}
use lib.ListN.{length, get_or, length-append}
use borrow.Author.Tests.{ne_eqb, ltb-true}
use Rattle.semantics.specs.Base.{pick, only, single, last, All, ◌>>=◌}
use Rattle.semantics.specs.Tree.{Tree, Item, no_item, expr_at, item_at, text_at, is_kind, path, plain, select, last_key, reference, string}
use Rattle.semantics.proofs.BaseLaws.{and_right}
use Rattle.image_fields.specs.Image.{expr_count, text_count, kind_of, detail_of, count_of, decode}
use Rattle.image_rules.specs.Rules.{has, expr_presence, detail_count, texted, text_fits, expr_fits}
use Rattle.image.specs.Inside.Accepted.{Accepted}
use Rattle.image_fields.proofs.ImageLaws.{tree-expr}
use Rattle.image.proofs.AcceptedLaws.{item-below-owner}
use Rattle.image.proofs.PathLaws.{Key, last_of, last-behind, path_cases}
use Rattle.narrow_texts.specs.Inside.Numbers.{Finds}
use Rattle.narrow_texts.specs.Inside.Texts.{single_key}
use Rattle.narrow_texts.proofs.NumberLaws.{just_found}

-- "Only Reference and String literals have a text, and it is below T."
module _ (s : List ℕ) (a : Accepted s) (e : ℕ) (l : e < expr_count s) where
  has-text : texted (kind_of s e) (detail_of s e) ≡ true → (expr_at (decode s) e).text < text_count s
  unfolding expr_fits text_fits
  has-text h =
      rw (tree-expr s e l)
      (ltb-true _ _ (rw h at (and_right (leb (kind_of s e) 16 && ltb (detail_of s e) (detail_count (kind_of s e))) _ (a.exprs e l))))

  pub reference-text : (expr_at (decode s) e).kind ≡ 10 → (expr_at (decode s) e).text < text_count s
  unfolding texted
  reference-text h = let k : kind_of s e ≡ 10 = (rw (tree-expr s e l) at h) in has-text (rw k)

  pub string-text : (expr_at (decode s) e).kind ≡ 3 → (expr_at (decode s) e).detail ≡ 2 → (expr_at (decode s) e).text < text_count s
  unfolding texted
  string-text h g =
      let k : kind_of s e ≡ 3 = (rw (tree-expr s e l) at h) in
      let d : detail_of s e ≡ 2 = (rw (tree-expr s e l) at g) in
      has-text (rw (k, d))

-- `string`
module _ (t : Tree) (e : ℕ) {kind : ℕ} (k : kind ≡ (expr_at t e).kind) where
  pub other-kind : (kind ≡ 3 → ⊥) → string t e ≡ None
  unfolding string is_kind only
  other-kind h = rw (← k, ne_eqb kind 3 h)

  module _ (h : kind ≡ 3) {detail : ℕ} (d : detail ≡ (expr_at t e).detail) where
    pub other-detail : (detail ≡ 2 → ⊥) → string t e ≡ None
    unfolding string is_kind only
    other-detail g = rw (← k, h, ← d, ne_eqb detail 2 g)

    pub is-string : detail ≡ 2 → string t e ≡ Some (expr_at t e).text
    unfolding string is_kind only
    is-string g = rw (← k, h, ← d, g)

  -- `reference`
  pub no-reference : (kind ≡ 10 → ⊥) → reference t e ≡ None
  unfolding reference is_kind only
  no-reference h = rw (← k, ne_eqb kind 10 h)

  pub is-reference : kind ≡ 10 → reference t e ≡ Some (expr_at t e).text
  unfolding reference is_kind only
  is-reference h = rw (← k, h)

-- a text's number, handed on as it is read
pub text-found : (s : List ℕ) (e : ℕ) {o : Option ℕ} {r : ℕ} → r ≡ (expr_at (decode s) e).text → o ≡ Some (expr_at (decode s) e).text
    → (expr_at (decode s) e).text < text_count s → Finds (text_count s) o (Some r)
text-found s e q h l = rw q (just_found h l)

-- a list of one, and the others
single-none : {A B : Type 0} (f : A → B) (l : List A) → (length l ≡ 1 → ⊥) → single (map f l) ≡ None
unfolding single
single-none f [] h = refl
single-none f (x ∷ []) h = absurd (h refl)
single-none f (x ∷ y ∷ l) h = refl

single-some : {A B C : Type 0} (f : A → B) (l : List A) → length l ≡ 1 → ((x : A) → l ≡ x ∷ [] → single (map f l) ≡ Some (f x) → C) → C
unfolding single
single-some f [] h k = absurd (omega arith)
single-some f (x ∷ []) h k = k x refl refl
single-some f (x ∷ y ∷ l) h k = absurd (omega arith)

all-at : (is : List Item) (k : ℕ) (d : Item) → All Key is → k < length is → Key (get_or is k d)
all-at [] k d h l = absurd (omega arith)
all-at (i ∷ is) zero d h l = h.0
all-at (i ∷ is) (suc k) d h l = all-at is k d h.1 (omega arith)

module _ (s : List ℕ) (a : Accepted s) (e : ℕ) (l : e < expr_count s) where
  abbrev t : Tree
  t = decode s

  -- what follows the set is one item less
  behind : (i : Item) (is : List Item) → (expr_at t e).items ≡ i ∷ is → {count : ℕ} → count ≡ length (expr_at t e).items → count ≡ suc (length is)
  behind i is q c = c ∙ ap length q

  pub no_default : plain t e ≡ true → single_key t e ≡ (single (path t e) >>= string t)
  unfolding single_key only ◌>>=◌
  no_default h = rw h

  with_default : plain t e ≡ false → single_key t e ≡ None
  unfolding single_key only ◌>>=◌
  with_default h = rw h

  abbrev Chosen : Type 0
  Chosen = ((expr_at t e).kind ≡ 11) ⊎ ((expr_at t e).kind ≡ 12)

  -- `single_static_attrpath_key`
  module _ (chosen : Chosen) {count : ℕ} (c : count ≡ length (expr_at t e).items) where
    pub other-count : (count ≡ 2 → ⊥) → single_key t e ≡ None
    unfolding ◌>>=◌
    other-count h =
        path_cases s a e l chosen
        (λ i is q r k p f. no_default f ∙ rw (p, single-none (λ j. j.expression) is (λ z. h (omega (arith, behind i is q c)))))
        (λ i is d q r g f. with_default f)

    module _ (h : count ≡ 2) {role : ℕ} (g : role ≡ (item_at t e 1).role) where
      second : (i : Item) (is : List Item) (x : Item) → (expr_at t e).items ≡ i ∷ is → is ≡ x ∷ [] → item_at t e 1 ≡ x
      unfolding item_at
      second i is x q p = rw (q, p)

      pub other-role : (role ≡ 1 → ⊥) → single_key t e ≡ None
      other-role n =
          path_cases s a e l chosen
          (λ i is q r k p f. single-some (λ j. j.expression) is (omega (arith, behind i is q c)) λ x w v.
          absurd (n (g ∙ ap (λ j. j.role) (second i is x q w) ∙ (rw w at k).0)))
          (λ i is d q r z f. with_default f)

      pub key-string : role ≡ 1 → {child : ℕ} → child ≡ (item_at t e 1).expression → single_key t e ≡ string t child
      unfolding ◌>>=◌
      key-string n {child} u =
          path_cases s a e l chosen
          (λ i is q r k p f. single-some (λ j. j.expression) is (omega (arith, behind i is q c)) λ x w v.
          no_default f ∙ rw (p, v, u, second i is x q w))
          (λ i is d q r z f. absurd (two i is d q z (omega (arith, behind i (is ++ d ∷ []) q c, length-append is (d ∷ [])))))
        where
          two : (i : Item) (is : List Item) (d : Item) → (expr_at t e).items ≡ i ∷ (is ++ d ∷ []) → d.role ≡ 2 → length is ≡ 0 → ⊥
          two i [] d q z m = omega (arith, g, ap (λ j. j.role) (second i (d ∷ []) d q refl), z)
          two i (x ∷ is) d q z m = omega arith

  -- a key is below its owner
  one_has : expr_presence 1 ≡ has
  unfolding expr_presence pick
  one_has = refl

  pub key_below : (k : ℕ) → k < count_of s e → {role child : ℕ} → role ≡ (item_at t e k).role → role ≡ 1 → child ≡ (item_at t e k).expression → child < e
  key_below k m r h u = rw u (item-below-owner s a e l k m (rw (← r, h) one_has))

  pub some_item : Chosen → 0 < length (expr_at t e).items
  some_item chosen = path_cases s a e l chosen (λ i is q r k p f. rw q (omega arith)) (λ i is d q r g f. rw q (omega arith))

  -- `last_key`
  module _ (sel : (expr_at t e).kind ≡ 11) where
    last-plain : plain t e ≡ true → last_key t e ≡ (last (path t e) >>= λ k. string t k >>= λ x. Some (text_at t x))
    unfolding last_key select is_kind only ◌>>=◌
    last-plain h = rw (sel, h)

    last_default : plain t e ≡ false → last_key t e ≡ None
    unfolding last_key select is_kind only ◌>>=◌
    last_default h = rw (sel, h)

    module _ {count k role : ℕ} (c : count ≡ length (expr_at t e).items) (m : k ≡ count - 1) (g : role ≡ (item_at t e k).role) where
      -- the last item is the last that follows the set
      last-item : (i x : Item) (is : List Item) → (expr_at t e).items ≡ i ∷ x ∷ is → item_at t e k ≡ get_or (x ∷ is) (length is) no_item
      unfolding item_at
      last-item i x is q = let z : k ≡ suc (length is) = omega (arith, behind i (x ∷ is) q c) in rw (q, z)

      set-item : (i : Item) → (expr_at t e).items ≡ i ∷ [] → item_at t e k ≡ i
      unfolding item_at
      set-item i q = let z : k ≡ 0 = omega (arith, behind i [] q c) in rw (q, z)

      default_item : (i : Item) (is : List Item) (d : Item) → (expr_at t e).items ≡ i ∷ (is ++ d ∷ []) → item_at t e k ≡ d
      unfolding item_at
      default_item i is d q =
          let z : k ≡ suc (length is) = omega (arith, behind i (is ++ d ∷ []) q c, length-append is (d ∷ [])) in rw (q, z) (last-behind no_item d is)

      pub last-other : (role ≡ 1 → ⊥) → last_key t e ≡ None
      unfolding last ◌>>=◌
      last-other n = path_cases s a e l (inl sel) go (λ i is d q r z f. last_default f)
        where
          go : (i : Item) (is : List Item) → (expr_at t e).items ≡ i ∷ is → i.role ≡ 0 → All Key is → path t e ≡ map (λ j. j.expression) is → plain t e ≡ true → last_key t e ≡ None
          go i [] q r ks p f = last-plain f ∙ rw p
          go i (x ∷ is) q r ks p f = absurd (n (g ∙ ap (λ j. j.role) (last-item i x is q) ∙ all-at (x ∷ is) (length is) no_item ks (omega arith)))

      pub last-string : role ≡ 1 → {child : ℕ} → child ≡ (item_at t e k).expression → last_key t e ≡ (string t child >>= λ x. Some (text_at t x))
      unfolding ◌>>=◌
      last-string n {child} u =
          path_cases s a e l (inl sel) go (λ i is d q r z f. absurd (omega (arith, g, ap (λ j. j.role) (default_item i is d q))))
        where
          go : (i : Item) (is : List Item) → (expr_at t e).items ≡ i ∷ is → i.role ≡ 0 → All Key is → path t e ≡ map (λ j. j.expression) is → plain t e ≡ true
              → last_key t e ≡ (string t child >>= λ x. Some (text_at t x))
          go i [] q r ks p f = absurd (omega (arith, g, ap (λ j. j.role) (set-item i q)))
          go i (x ∷ is) q r ks p f = last-plain f ∙ rw (p, last_of (λ j. j.expression) no_item x is, u, last-item i x is q)

-- the set of a Select or a HasAttr is below its owner
zero_has : expr_presence 0 ≡ has
unfolding expr_presence pick
zero_has = refl

pub set_below : (s : List ℕ) (a : Accepted s) (e : ℕ) (l : e < expr_count s) → ((expr_at (decode s) e).kind ≡ 11) ⊎ ((expr_at (decode s) e).kind ≡ 12) → 0 < count_of s e → (item_at (decode s) e 0).expression < e
unfolding item_at
set_below s a e l h m = item-below-owner s a e l 0 m (rw set-role zero_has)
  where
    set-role : (item_at (decode s) e 0).role ≡ 0
    set-role = path_cases s a e l h (λ i is q r k p f. rw q r) (λ i is d q r g f. rw q r)
