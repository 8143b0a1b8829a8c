-- The turns over the items of an expression, in two rounds, are its visits.
use mathlib.Core.Path.{◌≡◌, refl, ap, sym, subst, ◌∙◌}
use mathlib.Core.Logic.{◌⊎◌, inl, inr}
use mathlib.Core.Bool.{Bool, true, false, cond, not, ◌&&◌, ◌||◌}
use mathlib.Core.List.{List, [], ◌∷◌, ◌++◌, map}
use Prim.Native.Nat.{ℕ, zero, suc, ◌≤◌, ◌<◌}
use native.Mathlib.Omega.{arith}
use native.Mathlib.Decide.{ℕ_discrete}
use lib.Dec.{eqb, ltb}
use lib.ListN.{length, get_or, length-map}
use borrow.Author.Tests.{ne_eqb, eqb-true}
use Rattle.semantics.specs.Base.{pick, keep, listed, only, each}
use Rattle.semantics.specs.Tree.{Tree, Item, no_item, is_none, expr_at, item_at, part}
use Rattle.semantics.specs.Scopes.{Scope, ScopeVisit, makes, inside, visiting, children, inherited, enclosed, scope_children}
use Rattle.semantics.specs.Order.{arity}
use Rattle.semantics.proofs.BaseLaws.{true≢false, pick_later, pick-none}
use Rattle.image_fields.specs.Image.{expr_count, decode}
use Rattle.image.specs.Inside.Accepted.{Accepted}
use Rattle.image_fields.proofs.ImageLaws.{tree-items}
use Rattle.image.proofs.OrderedLaws.{part_count, part-below}
use Rattle.resolve_events.specs.Inside.Turns.{has_bindings, role_visited}
use Rattle.resolve_defs.proofs.ScopeLaws.{unmade}
use Rattle.resolve_events.specs.Inside.Pass.{turn_visits, place_of}

abbrev pub tag : Bool → Item → Bool × Item
tag b x = (b, x)

-- a turn is inside or not, at an item: those of the first round, and of the second
unfoldable pub first_for : Bool → ℕ → List Item → Item → Item → List (Bool × Item)
first_for true kind is i j = map (tag true) is
first_for false kind is i j = pick kind ((13, (false, i) ∷ (true, j) ∷ []) ∷ (14, (true, j) ∷ (true, i) ∷ []) ∷ []) (map (tag true) is)

unfoldable pub first_turns : Tree → ℕ → List (Bool × Item)
first_turns t e = first_for (has_bindings (expr_at t e).kind) (expr_at t e).kind (expr_at t e).items (item_at t e 0) (item_at t e 1)

unfoldable pub second_turns : Tree → ℕ → List (Bool × Item)
second_turns t e = cond (has_bindings (expr_at t e).kind) (map (tag false) (expr_at t e).items) []

-- what a turn visits
unfoldable pub turn_visit : Tree → ℕ → Scope → Bool × Item → List ScopeVisit
turn_visit t e c u = cond (turn_visits (expr_at t e).kind u.0 u.1) (record { expr = u.1.expression; scope = cond u.0 (inside t e c) c } ∷ []) []

-- The two parts of a With and of an Assert.
with_arity : (kind : ℕ) → (kind ≡ 13) ⊎ (kind ≡ 14) → arity kind ≡ 2
unfolding arity pick
with_arity kind (inl h) = rw h
with_arity kind (inr h) = rw h

two_count : (s : List ℕ) (a : Accepted s) (e : ℕ) → e < expr_count s → ((expr_at (decode s) e).kind ≡ 13) ⊎ ((expr_at (decode s) e).kind ≡ 14) → length (expr_at (decode s) e).items ≡ 2
two_count s a e l two =
    let n = with_arity (expr_at (decode s) e).kind two in tree-items s e l ∙ part_count s a e l (omega (arith, n)) ∙ n

module _ (s : List ℕ) (a : Accepted s) (e : ℕ) (l : e < expr_count s) (two : ((expr_at (decode s) e).kind ≡ 13) ⊎ ((expr_at (decode s) e).kind ≡ 14)) (k : ℕ) (m : k < 2) where
  few : k < arity (expr_at (decode s) e).kind
  few = rw (with_arity (expr_at (decode s) e).kind two) m

  two_present : is_none (item_at (decode s) e k).expression ≡ false
  unfolding is_none part
  two_present = ne_eqb (item_at (decode s) e k).expression 16383 (λ z. absurd (omega (arith, z, part-below s a e l k few, a.sized.exprs-few)))

of_lambda : (t : Tree) (e : ℕ) (c : Scope) → (expr_at t e).kind ≡ 4 → scope_children t e c ≡ visiting (inside t e c) (children t e λ i. true)
unfolding scope_children pick
of_lambda t e c h = rw h

of_others : (t : Tree) (e : ℕ) (c : Scope) → ((expr_at t e).kind ≡ 4 → ⊥) → ((expr_at t e).kind ≡ 5 → ⊥) → ((expr_at t e).kind ≡ 8 → ⊥) → ((expr_at t e).kind ≡ 13 → ⊥) → ((expr_at t e).kind ≡ 14 → ⊥)
    → scope_children t e c ≡ visiting c (children t e λ i. true)
unfolding scope_children
of_others t e c n₄ n₅ n₈ n₁₃ n₁₄ =
    pick_later _ _ _ _ (ne_eqb _ 4 n₄) ∙ pick_later _ _ _ _ (ne_eqb _ 5 n₅) ∙ pick_later _ _ _ _ (ne_eqb _ 8 n₈) ∙ pick_later _ _ _ _ (ne_eqb _ 13 n₁₃)
    ∙ pick_later _ _ _ _ (ne_eqb _ 14 n₁₄) ∙ pick-none _ _

outside_of : (t : Tree) (e : ℕ) (c : Scope) → makes t e ≡ false → inside t e c ≡ c
unfolding inside
outside_of t e c h = rw h

-- items in one scope are visited as the definition visits them
pub each-visit : (t : Tree) (e : ℕ) (c : Scope) (b : Bool) (p : Item → Bool) (is : List Item) → ((i : Item) → turn_visits (expr_at t e).kind b i ≡ (p i && not (is_none i.expression)))
    → each (turn_visit t e c) (map (tag b) is) ≡ visiting (cond b (inside t e c) c) (map (λ i. i.expression) (keep (λ i. p i && not (is_none i.expression)) is))
unfolding each visiting keep listed only turn_visit
each-visit t e c b p [] h = refl
each-visit t e c b p (i ∷ is) h =
    subst (λ v. cond v (record { expr = i.expression; scope = d } ∷ []) [] ++ each (turn_visit t e c) (map (tag b) is) ≡ visiting d (map (λ j. j.expression) (listed (only (p i && not (is_none i.expression)) i) ++ tail)))
    (sym (h i)) (go (p i && not (is_none i.expression)) (each-visit t e c b p is h))
  where
    d : Scope
    d = cond b (inside t e c) c

    tail : List Item
    tail = keep (λ j. p j && not (is_none j.expression)) is

    go : (v : Bool) → each (turn_visit t e c) (map (tag b) is) ≡ visiting d (map (λ j. j.expression) tail)
        → cond v (record { expr = i.expression; scope = d } ∷ []) [] ++ each (turn_visit t e c) (map (tag b) is)
        ≡ visiting d (map (λ j. j.expression) (listed (only v i) ++ tail))
    go true r = ap (λ l. record { expr = i.expression; scope = d } ∷ l) r
    go false r = r

-- the test of a turn, by kind
module _ (kind : ℕ) (i : Item) where
  pub outside_test : has_bindings kind ≡ true → turn_visits kind false i ≡ (inherited i && not (is_none i.expression))
  unfolding turn_visits role_visited inherited
  outside_test h = rw h

  pub inside-test : has_bindings kind ≡ true → turn_visits kind true i ≡ (enclosed i && not (is_none i.expression))
  unfolding turn_visits role_visited enclosed inherited
  inside-test h = rw h

  pub any-test : (b : Bool) → has_bindings kind ≡ false → turn_visits kind b i ≡ not (is_none i.expression)
  unfolding turn_visits role_visited
  any-test b h = rw h

pub binding-kind : (kind : ℕ) → has_bindings kind ≡ true → (kind ≡ 5) ⊎ (kind ≡ 8)
unfolding has_bindings
binding-kind kind h = go (eqb kind 5) refl h
  where
    go : (b : Bool) → eqb kind 5 ≡ b → (b || eqb kind 8) ≡ true → (kind ≡ 5) ⊎ (kind ≡ 8)
    go true f g = inl (eqb-true kind 5 f)
    go false f g = inr (eqb-true kind 8 g)

pub no-binding : (kind : ℕ) → has_bindings kind ≡ false → (kind ≡ 5 → ⊥) × (kind ≡ 8 → ⊥)
unfolding has_bindings
no-binding kind h = (λ k. true≢false (five kind k) h, λ k. true≢false (eight kind k) h)
  where
    five : (n : ℕ) → n ≡ 5 → has_bindings n ≡ true
    five n k = rw k

    eight : (n : ℕ) → n ≡ 8 → has_bindings n ≡ true
    eight n k = rw k

module _ (s : List ℕ) (a : Accepted s) (e : ℕ) (l : e < expr_count s) where
  abbrev t : Tree
  t = decode s

  abbrev kind : ℕ
  kind = (expr_at (decode s) e).kind

  -- the turns, by kind
  of_with : kind ≡ 13 → first_turns t e ≡ (false, item_at t e 0) ∷ (true, item_at t e 1) ∷ []
  unfolding first_turns first_for pick has_bindings
  of_with h = rw h

  of_assert : kind ≡ 14 → first_turns t e ≡ (true, item_at t e 1) ∷ (true, item_at t e 0) ∷ []
  unfolding first_turns first_for pick has_bindings
  of_assert h = rw h

  pub of_both : has_bindings kind ≡ true → first_turns t e ≡ map (tag true) (expr_at t e).items
  unfolding first_turns first_for
  of_both h = rw h

  pub of_all : has_bindings kind ≡ false → (kind ≡ 13 → ⊥) → (kind ≡ 14 → ⊥) → first_turns t e ≡ map (tag true) (expr_at t e).items
  unfolding first_turns first_for
  of_all h n₁₃ n₁₄ = rw h (pick_later _ _ _ _ (ne_eqb _ 13 n₁₃) ∙ pick_later _ _ _ _ (ne_eqb _ 14 n₁₄) ∙ pick-none _ _)

  pub second-both : has_bindings kind ≡ true → second_turns t e ≡ map (tag false) (expr_at t e).items
  unfolding second_turns
  second-both h = rw h

  pub second_none : has_bindings kind ≡ false → second_turns t e ≡ []
  unfolding second_turns
  second_none h = rw h

  -- a turn of a With or an Assert visits its part
  part-visit : (b : Bool) (two : (kind ≡ 13) ⊎ (kind ≡ 14)) (k : ℕ) (m : k < 2) (c : Scope) → has_bindings kind ≡ false
      → turn_visit t e c (b, item_at t e k) ≡ record { expr = part t e k; scope = cond b (inside t e c) c } ∷ []
  unfolding turn_visit part
  part-visit b two k m c h = rw (any-test kind (item_at t e k) b h, two_present s a e l two k m)

  without : (kind ≡ 13) ⊎ (kind ≡ 14) → has_bindings kind ≡ false
  unfolding has_bindings
  without (inl h) = rw h
  without (inr h) = rw h

  with_all : kind ≡ 13 → (c : Scope) → each (turn_visit t e c) (first_turns t e) ≡ scope_children t e c
  unfolding each scope_children pick visiting
  with_all h c = rw (of_with h, part-visit false (inl h) 0 (omega arith) c (without (inl h)), part-visit true (inl h) 1 (omega arith) c (without (inl h)), h)

  outside_assert : kind ≡ 14 → (c : Scope) → inside t e c ≡ c
  outside_assert h c =
      outside_of t e c (unmade s a e l (λ z. absurd (omega (arith, z, h))) (λ z. absurd (omega (arith, z, h))) (λ z. absurd (omega (arith, z, h))) (λ z. absurd (omega (arith, z, h))))

  assert_all : kind ≡ 14 → (c : Scope) → each (turn_visit t e c) (first_turns t e) ≡ scope_children t e c
  unfolding each scope_children pick visiting
  assert_all h c = rw (of_assert h, part-visit true (inr h) 1 (omega arith) c (without (inr h)), part-visit true (inr h) 0 (omega arith) c (without (inr h)), outside_assert h c, h)

  other-all : has_bindings kind ≡ false → (kind ≡ 13 → ⊥) → (kind ≡ 14 → ⊥) → (c : Scope) → each (turn_visit t e c) (first_turns t e) ≡ scope_children t e c
  unfolding children
  other-all h n₁₃ n₁₄ c =
      ap (each (turn_visit t e c)) (of_all h n₁₃ n₁₄)
      ∙ each-visit t e c true (λ i. true) (expr_at t e).items (λ i. any-test kind i true h)
      ∙ elim (ℕ_discrete kind 4) [
        | yes k ↦ sym (of_lambda t e c k)
        | no k ↦
            ap (λ d. visiting d (children t e (λ i. true))) (outside_of t e c (unmade s a e l k (no-binding kind h).0 (no-binding kind h).1 n₁₃))
            ∙ sym (of_others t e c k (no-binding kind h).0 (no-binding kind h).1 n₁₃ n₁₄)
      ]

  -- without bindings one round is all
  pub turns_all : has_bindings kind ≡ false → (c : Scope) → each (turn_visit t e c) (first_turns t e) ≡ scope_children t e c
  turns_all h c = elim (ℕ_discrete kind 13) [ yes k ↦ with_all k c | no k ↦ elim (ℕ_discrete kind 14) [ yes j ↦ assert_all j c | no j ↦ other-all h k j c ] ]

  -- a turn by its number
  abbrev Turn : ℕ → Type 0
  Turn k = (get_or (first_turns t e) k (true, no_item) ≡ (cond (eqb kind 13) (ltb 0 k) true, item_at t e (place_of kind k))) × (place_of kind k < length (expr_at t e).items)

  map_at : (b : Bool) (is : List Item) (k : ℕ) (d : Bool × Item) → k < length is → get_or (map (tag b) is) k d ≡ (b, get_or is k no_item)
  map_at b [] k d h = absurd (omega arith)
  map_at b (i ∷ is) zero d h = refl
  map_at b (i ∷ is) (suc k) d h = map_at b is k d (omega arith)

  plain_at : first_turns t e ≡ map (tag true) (expr_at t e).items → (kind ≡ 13 → ⊥) → (kind ≡ 14 → ⊥) → (k : ℕ) → k < length (expr_at t e).items → Turn k
  unfolding item_at place_of
  plain_at q n₁₃ n₁₄ k m = (
    ap (λ r. get_or r k (true, no_item)) q ∙ map_at true (expr_at t e).items k (true, no_item) m ∙ rw (ne_eqb kind 13 n₁₃, ne_eqb kind 14 n₁₄),
    rw (ne_eqb kind 14 n₁₄) m,
  )

  with_at : kind ≡ 13 → (k : ℕ) → k < 2 → Turn k
  unfolding place_of
  with_at h zero m = (rw (of_with h, h), rw (h, two_count s a e l (inl h)) (omega arith))
  with_at h (suc zero) m = (rw (of_with h, h), rw (h, two_count s a e l (inl h)) (omega arith))
  with_at h (suc (suc k)) m = absurd (omega arith)

  assert_at : kind ≡ 14 → (k : ℕ) → k < 2 → Turn k
  unfolding place_of
  assert_at h zero m = (rw (of_assert h, h), rw (h, two_count s a e l (inr h)) (omega arith))
  assert_at h (suc zero) m = (rw (of_assert h, h), rw (h, two_count s a e l (inr h)) (omega arith))
  assert_at h (suc (suc k)) m = absurd (omega arith)

  pub assert_two : kind ≡ 14 → length (expr_at t e).items ≡ 2
  assert_two h = two_count s a e l (inr h)

  -- bindings are neither a With nor an Assert
  pub both-other : has_bindings kind ≡ true → (kind ≡ 13 → ⊥) × (kind ≡ 14 → ⊥)
  both-other h = (λ k. absurd (true≢false h (without (inl k))), λ k. absurd (true≢false h (without (inr k))))

  pub first-at : (k : ℕ) → k < length (expr_at t e).items → Turn k
  first-at k m = go (has_bindings kind) refl
    where
      go : (b : Bool) → has_bindings kind ≡ b → Turn k
      go true h = plain_at (of_both h) (both-other h).0 (both-other h).1 k m
      go false h = elim (ℕ_discrete kind 13) [
        | yes q ↦ with_at q k (omega (arith, m, two_count s a e l (inl q)))
        | no q ↦ elim (ℕ_discrete kind 14) [ yes j ↦ assert_at j k (omega (arith, m, two_count s a e l (inr j))) | no j ↦ plain_at (of_all h q j) q j k m ]
      ]

  pub second_at : has_bindings kind ≡ true → (k : ℕ) → k < length (expr_at t e).items → get_or (second_turns t e) k (true, no_item) ≡ (false, item_at t e (place_of kind k))
  unfolding item_at place_of
  second_at h k m =
      ap (λ r. get_or r k (true, no_item)) (second-both h) ∙ map_at false (expr_at t e).items k (true, no_item) m ∙ rw (ne_eqb kind 14 (both-other h).1)

  pub first-length : length (first_turns t e) ≡ length (expr_at t e).items
  first-length = go (has_bindings kind) refl
    where
      go : (b : Bool) → has_bindings kind ≡ b → length (first_turns t e) ≡ length (expr_at t e).items
      go true h = ap length (of_both h) ∙ length-map (expr_at t e).items (tag true)
      go false h = elim (ℕ_discrete kind 13) [
        | yes k ↦ ap length (of_with k) ∙ sym (two_count s a e l (inl k))
        | no k ↦ elim (ℕ_discrete kind 14) [
          | yes j ↦ ap length (of_assert j) ∙ sym (two_count s a e l (inr j))
          | no j ↦ ap length (of_all h k j) ∙ length-map (expr_at t e).items (tag true)
        ]
      ]

  pub second-length : length (second_turns t e) ≤ length (expr_at t e).items
  second-length = go (has_bindings kind) refl
    where
      go : (b : Bool) → has_bindings kind ≡ b → length (second_turns t e) ≤ length (expr_at t e).items
      go true h = omega (arith, ap length (second-both h), length-map (expr_at t e).items (tag false))
      go false h = omega (arith, ap length (second_none h))

  pub second-long : has_bindings kind ≡ true → length (second_turns t e) ≡ length (expr_at t e).items
  second-long h = ap length (second-both h) ∙ length-map (expr_at t e).items (tag false)
