-- Items that are all children: where the order of a kind allows nothing else, this is the whole of their rule.
use Rattle.std.specs.Prelude.{Option, Some, None}
use mathlib.Core.Path.{◌≡◌, refl, ap, sym, ◌∙◌}
use mathlib.Core.Bool.{Bool, true, false, cond, ◌&&◌, ◌||◌}
use mathlib.Core.List.{List, [], ◌∷◌}
use Prim.Native.Nat.{ℕ, zero, suc, ◌+◌, ◌-◌, ◌*◌, ◌/◌, ◌%◌, ◌^◌, ◌≤◌, ◌<◌}
use native.Mathlib.Omega.{arith}
use native.Mathlib.Decide.{dec_lt}
use lib.Dec.{eqb, ltb, leb}
use native.Mathlib.Numerals.{add-one}
use lib.ListN.{length, get_or, drop, drop_of_length-le}
use lib.Seq.{drop-cons}
use borrow.Author.Tests.{eq-eqb, ne_eqb, lt-ltb, le-ltb, le-leb, eqb-true, ltb-true, leb-true}
use Rattle.std.specs.List.{list_all, range_with_len}
use Rattle.semantics.specs.Base.{only, pick, every, all}
use Rattle.semantics.specs.Tree.{Tree, Item, no_item, is_none, expr_at, item_at}
use Rattle.semantics.proofs.BaseLaws.{and_left, and_right, and-false, all-holds}
use Rattle.image_rules.specs.Rules.{Part, one, any, fits, name_presence, expr_presence, inherits, order, among, next, complete, follows}
use Rattle.image_rules.specs.Inside.Whole.{lower, item_fits, items_fit}
use Rattle.image_rules.specs.Inside.Machine.{item_of_word, advance, plain_below, child_below}
use Rattle.image_rules.proofs.OrderLaws.{same_parts, same_parts_lem, computed}
use Rattle.image_rules.proofs.RuleLaws.{Plain}
use Rattle.image_rules.proofs.ItemLaws.{and-true, follows_from, follows_step, roles}

-- an item's 32 bits, taken round so that those of its role without a name are 0, are below its owner
module _ (w : ℕ) (small : w < 2 ^ 32) (role : ℕ) (l : role ≤ 10) (owner : ℕ) (few : owner ≤ 2 ^ 14) where
  whole : w ≡ (item_of_word w).role * 268435456 + (item_of_word w).name * 16384 + (item_of_word w).expression
  whole = omega arith

  abbrev turned : ℕ
  turned = (w + 4026548224 - 268435456 * role) % 4294967296

  pub plain-turned : ltb turned owner ≡ plain_below role owner (item_of_word w)
  unfolding plain_below is_none
  plain-turned = go (plain_below role owner (item_of_word w)) refl
    where
      go : (b : Bool) → plain_below role owner (item_of_word w) ≡ b → ltb turned owner ≡ b
      go true h =
          let p = and_left (eqb (item_of_word w).role role && eqb (item_of_word w).name 16383) (ltb (item_of_word w).expression owner) h in
          let r = eqb-true (item_of_word w).role role (and_left _ _ p) in
          let m = eqb-true (item_of_word w).name 16383 (and_right (eqb (item_of_word w).role role) _ p) in
          let x = ltb-true (item_of_word w).expression owner (and_right (eqb (item_of_word w).role role && eqb (item_of_word w).name 16383) _ h) in
          let u : w + 4026548224 - 268435456 * role ≡ 4294967296 + (item_of_word w).expression = omega (arith, whole) in
          lt-ltb turned owner (omega arith)
      go false h = elim (dec_lt turned owner) [
        | yes y ↦
            let x : (item_of_word w).expression ≡ turned = omega (arith, whole) in
            let n : (item_of_word w).name ≡ 16383 = omega (arith, whole) in
            let u : (item_of_word w).role + 16 ≡ 16 * ((w + 4026548224 - 268435456 * role) / 4294967296) + role = omega (arith, whole) in
            let r : (item_of_word w).role ≡ role = omega arith in
            let l : (item_of_word w).expression < owner = omega arith in
            let z : ◌≡◌ {A = Bool} true false = sym (rw (eq-eqb (item_of_word w).role role r, eq-eqb (item_of_word w).name 16383 n, lt-ltb (item_of_word w).expression owner l)) ∙ h in
            absurd (let z : ◌≡◌ {A = ℕ} 0 1 = cc in omega arith)
        | no y ↦ le-ltb turned owner (omega (arith, y))
      ]

-- a test of each number of a range is the test of each element that it stands for
every-from : {A : Type 0} (p : A → Bool) (q : ℕ → Bool) (l : List A) (d : A) (from : ℕ) → ((k : ℕ) → k < length l → q (from + k) ≡ p (get_or l k d))
    → list_all q (range_with_len from (length l)) ≡ every p l
unfolding every
every-from p q [] d from h = refl
every-from p q (x ∷ xs) d from h =
    let first : q from ≡ p x = ap q (omega arith) ∙ h 0 (omega arith) in
    let others : list_all q (range_with_len (from + 1) (length xs)) ≡ every p xs = every-from p q xs d (from + 1) (λ k m. ap q (omega arith) ∙ h (suc k) (omega arith)) in
    ap (λ b. b && list_all q (range_with_len (from + 1) (length xs))) first ∙ ap (λ b. p x && b) others

-- and so a test of the numbers of an expression's items is that of the items
pub every-item : (p : Item → Bool) (t : Tree) (e count : ℕ) → length (expr_at t e).items ≡ count
    → list_all (λ k. p (item_at t e k)) (range_with_len 0 count) ≡ every p (expr_at t e).items
unfolding item_at
every-item p t e count n = rw (← n) (every-from p (λ k. p (item_at t e k)) (expr_at t e).items no_item 0 (λ k h. ap (λ i. p (item_at t e i)) (omega arith)))

-- the loop over items that are all children
pub record Passing (p : Item → Bool) (l : List Item) (count k : ℕ) : Type 0 where
  pub inside : k ≤ count
  pub number : length l ≡ count
  pub rest : every p (drop k l) ≡ every p l

pub passing-start : {p : Item → Bool} {l : List Item} {count : ℕ} → length l ≡ count → Passing p l count 0
passing-start n = record { inside = omega arith; number = n; rest = refl }

module _ {p : Item → Bool} {l : List Item} {count k : ℕ} (g : Passing p l count k) where
  next_item : k < count → drop k l ≡ get_or l k no_item ∷ drop (k + 1) l
  next_item h = rw add-one (drop-cons l k no_item (omega (arith, g.number)))

  pub passing-more : k < count → p (get_or l k no_item) ≡ true → Passing p l count (k + 1)
  unfolding every
  passing-more h f = record { inside = omega arith; number = g.number; rest = rw (next_item h, f) at g.rest }

  pub passing-fails : k < count → p (get_or l k no_item) ≡ false → false ≡ every p l
  unfolding every
  passing-fails h f = rw (next_item h, f) at g.rest

  pub passing-done : count ≤ k → true ≡ every p l
  unfolding every
  passing-done h = rw (drop_of_length-le l {i = k} (omega (arith, g.number))) at g.rest

-- n children
unfoldable pub ones : ℕ → List Part
ones zero = []
ones (suc n) = one 0 ∷ ones n

unfoldable pub any-children : List Part
any-children = any (0 ∷ []) ∷ []

pub and-and : (a b c : Bool) → ((a && b) && c) ≡ (a && (b && c))
and-and true b c = refl
and-and false b c = refl

-- roles 0 to 2: a child, a key, a default
plain-role : (role : ℕ) → role ≤ 2 → Plain role
unfolding name_presence expr_presence pick
plain-role zero l = record { unnamed = refl; owning = refl; other = refl }
plain-role (suc zero) l = record { unnamed = refl; owning = refl; other = refl }
plain-role (suc (suc zero)) l = record { unnamed = refl; owning = refl; other = refl }
plain-role (suc (suc (suc n))) l = absurd (omega arith)

module _ (t : Tree) (owner : ℕ) where
  -- an item of such a role fits where it has no name and an expression below its owner
  pub role-plain : (i : Item) {role : ℕ} → role ≤ 2 → i.role ≡ role → item_fits t owner i ≡ plain_below role owner i
  unfolding item_fits lower inherits fits plain_below
  role-plain i {role} l e =
      let p : Plain i.role = rw e (plain-role role l) in
      rw (le-leb i.role 10 (omega arith), p.unnamed, p.owning, p.other, eq-eqb i.role role e) (and-true _)

  other-role : (i : Item) → eqb i.role 0 ≡ false → child_below owner i ≡ false
  unfolding plain_below
  other-role i q = rw q

  -- the rule of items from a state on
  abbrev asked : List Item → Option (List Part) → Bool
  asked l o = every (item_fits t owner) l && follows_from o (roles l)

  asked_cons : (i : Item) (l : List Item) (o : Option (List Part)) → asked (i ∷ l) o ≡ ((item_fits t owner i && every (item_fits t owner) l) && follows_from (advance o i.role) (roles l))
  unfolding every
  asked_cons i l o = ap (λ z. (item_fits t owner i && every (item_fits t owner) l) && z) (follows_step o i.role (roles l))

  child_cons : (i : Item) (l : List Item) → every (child_below owner) (i ∷ l) ≡ (child_below owner i && every (child_below owner) l)
  unfolding every
  child_cons i l = refl

  -- one item more, in a state in which only a child may come
  step : (i : Item) (l : List Item) (o : Option (List Part)) (ps : List Part) → advance o i.role ≡ only (eqb i.role 0) ps → asked l (Some ps) ≡ every (child_below owner) l
      → asked (i ∷ l) o ≡ every (child_below owner) (i ∷ l)
  unfolding only follows_from
  step i l o ps a h = go (eqb i.role 0) refl
    where
      at : (b : Bool) → eqb i.role 0 ≡ b → asked (i ∷ l) o ≡ ((item_fits t owner i && every (item_fits t owner) l) && follows_from (only b ps) (roles l))
      at b q = asked_cons i l o ∙ ap (λ z. (item_fits t owner i && every (item_fits t owner) l) && follows_from z (roles l)) (a ∙ ap (λ b. only b ps) q)

      go : (b : Bool) → eqb i.role 0 ≡ b → asked (i ∷ l) o ≡ every (child_below owner) (i ∷ l)
      go true q =
          at true q ∙ and-and (item_fits t owner i) (every (item_fits t owner) l) (follows_from (Some ps) (roles l)) ∙ ap (λ z. z && asked l (Some ps)) (role-plain i (omega arith) (eqb-true i.role 0 q))
          ∙ ap (λ z. child_below owner i && z) h ∙ sym (child_cons i l)
      go false q =
          at false q ∙ and-false (item_fits t owner i && every (item_fits t owner) l) ∙ sym (child_cons i l ∙ ap (λ z. z && every (child_below owner) l) (other-role i q))

  all_asked : (l : List Item) → asked l (Some (ones (length l))) ≡ every (child_below owner) l
  unfolding ones advance next every follows_from follows complete
  all_asked [] = refl
  all_asked (i ∷ l) = step i l (Some (one 0 ∷ ones (length l))) (ones (length l)) refl (all_asked l)

  any_next : (r : ℕ) → advance (Some any-children) r ≡ only (eqb r 0) any-children
  unfolding any-children advance next among only
  any_next r = go (eqb r 0)
    where
      go : (b : Bool) → cond (b || false) (Some any-children) None ≡ only b any-children
      go true = refl
      go false = refl

  any-fits : (l : List Item) → asked l (Some any-children) ≡ every (child_below owner) l
  unfolding any-children every follows_from follows complete
  any-fits [] = refl
  any-fits (i ∷ l) = step i l (Some any-children) any-children (any_next i.role) (any-fits l)

-- the roles of other than n items are no n children
ones_miscounted : (n : ℕ) (l : List Item) → (n ≡ length l → ⊥) → follows (ones n) (roles l) ≡ false
unfolding ones follows next complete only
ones_miscounted zero [] h = absurd (h refl)
ones_miscounted zero (i ∷ l) h = refl
ones_miscounted (suc n) [] h = refl
ones_miscounted (suc n) (i ∷ l) h = go (eqb i.role 0) (ones_miscounted n l (λ e. h (omega arith)))
  where
    go : (b : Bool) → follows (ones n) (roles l) ≡ false → (elim (only b (ones n)) as (λ _. Bool) [ None ↦ false | Some qs ↦ follows qs (roles l) ]) ≡ false
    go true f = f
    go false f = refl

-- the orders of children only, 3 bits a kind: below 4 so many, 4 any number, 5 another order, 6 that of a path, 7 that of a
-- Lambda. One test of all seventeen, computed
unfoldable pub children_fit : ℕ → ℕ → Bool
unfolding any-children
children_fit packed kind =
    let n = packed / 2 ^ (3 * kind) % 2 ^ 3 in
    cond (ltb n 4) (same_parts (order kind) (ones n))
    (cond (eqb n 4) (same_parts (order kind) any-children) (cond (eqb n 6) (leb 11 kind && leb kind 12) (cond (eqb n 7) (eqb kind 4) true)))

-- To compute this test: whoever unfolds this unfolds all that it is made of.
unfoldable pub counts : Unit {0}
unfolding children_fit ones any-children computed
counts = tt

module _ (packed : ℕ) (h : all (children_fit packed) 17 ≡ true) (kind : ℕ) (l : kind ≤ 16) {n : ℕ} (e : n ≡ packed / 2 ^ (3 * kind) % 2 ^ 3) where
  fit_at : cond (ltb n 4) (same_parts (order kind) (ones n)) (cond (eqb n 4) (same_parts (order kind) any-children) (cond (eqb n 6) (leb 11 kind && leb kind 12) (cond (eqb n 7) (eqb kind 4) true))) ≡ true
  unfolding children_fit any-children
  fit_at = rw e (all-holds (children_fit packed) 17 kind h (omega arith))

  counted : n < 4 → order kind ≡ ones n
  counted m = same_parts_lem _ _ (rw (lt-ltb n 4 m) at fit_at)

  uncounted : n ≡ 4 → order kind ≡ any-children
  uncounted m = same_parts_lem _ _ (rw (le-ltb n 4 (omega arith), eq-eqb n 4 m) at fit_at)

  pub a_path : n ≡ 6 → (11 ≤ kind) × (kind ≤ 12)
  a_path m =
      let p : (leb 11 kind && leb kind 12) ≡ true = rw (le-ltb n 4 (omega arith), ne_eqb n 4 (λ f. absurd (omega arith)), eq-eqb n 6 m) at fit_at in
      (leb-true _ _ (and_left (leb 11 kind) (leb kind 12) p), leb-true _ _ (and_right (leb 11 kind) (leb kind 12) p))

  pub a_lambda : n ≡ 7 → 4 ≡ kind
  a_lambda m = sym (eqb-true _ _ (rw (le-ltb n 4 (omega arith), ne_eqb n 4 (λ f. absurd (omega arith)), ne_eqb n 6 (λ f. absurd (omega arith)), eq-eqb n 7 m) at fit_at))

-- where only children may come, the rule is that they are as many as the kind asks for, and that all are children
module _ (packed : ℕ) (h : all (children_fit packed) 17 ≡ true) (t : Tree) (owner : ℕ) {kind n count : ℕ} (k : kind ≡ (expr_at t owner).kind) (l : kind ≤ 16)
    (e : n ≡ packed / 2 ^ (3 * kind) % 2 ^ 3) (c : length (expr_at t owner).items ≡ count) where
  by_order : (ps : List Part) → order kind ≡ ps → items_fit t owner ≡ asked t owner (expr_at t owner).items (Some ps)
  unfolding items_fit follows_from
  by_order ps o = rw (← o, k)

  pub miscounted : n < 4 → (n ≡ count → ⊥) → false ≡ items_fit t owner
  unfolding follows_from
  miscounted m d =
      sym (by_order (ones n) (counted packed h kind l e m)
      ∙ ap (λ z. every (item_fits t owner) (expr_at t owner).items && z) (ones_miscounted n (expr_at t owner).items (λ q. d (q ∙ c))) ∙ and-false (every (item_fits t owner) (expr_at t owner).items))

  pub children-counted : n < 4 → n ≡ count → every (child_below owner) (expr_at t owner).items ≡ items_fit t owner
  children-counted m d =
      sym (by_order (ones (length (expr_at t owner).items)) (counted packed h kind l e m ∙ ap ones (d ∙ sym c)) ∙ all_asked t owner (expr_at t owner).items)

  pub children-any : n ≡ 4 → every (child_below owner) (expr_at t owner).items ≡ items_fit t owner
  children-any m = sym (by_order any-children (uncounted packed h kind l e m) ∙ any-fits t owner (expr_at t owner).items)
