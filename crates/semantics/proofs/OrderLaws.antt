-- Each step of each pass leads to a smaller number, so the bounds on the depth do not matter (specs/Order.antt).
use Rattle.std.specs.Prelude.{Option, Some, None}
use mathlib.Core.Path.{◌≡◌, refl, sym, ap, subst, ◌∙◌}
use mathlib.Core.Logic.{inl, inr}
use mathlib.Core.Bool.{Bool, true, false, not, cond, ◌&&◌}
use mathlib.Core.List.{List, [], ◌∷◌, ◌++◌, map}
use Prim.Native.Nat.{ℕ, zero, suc, ◌<◌, ◌+◌}
use native.Mathlib.Omega.{arith}
use lib.Dec.{eqb}
use borrow.Author.Tests.{eqb-true}
use Rattle.semantics.specs.Base.{pick, keep, single, numbered, each, sum, All, ◌>>=◌}
use Rattle.semantics.specs.Tree.{Tree, Item, is_none, expr_at, part, path, string as string_literal}
use Rattle.semantics.specs.Scopes.{Scope, ScopeVisit, inside, visiting, children, inherited, enclosed, binding_children, scope_children}
use Rattle.semantics.specs.Scopes.{scope_visits, scopes_from}
use Rattle.semantics.specs.Resolution.{Tables}
use Rattle.semantics.specs.Narrow.{Narrowing, Condition, equal, not_equal, and, or, implies, call, has_key, invert, opaque, keyed, shape, analysed}
use Rattle.semantics.specs.Narrow.{nodes_in, nodes, node, analyze_in, analyze}
use Rattle.semantics.specs.Walk.{Step, into, any_item, own_item, let_item, set_item, steps, visits, visits_from}
use Rattle.semantics.specs.Order.{Below, arity, Ordered, OrderedRuns}
use Rattle.semantics.proofs.BaseLaws.{true≢false, not-true, and_right, pick_all, All-++, All_to, All-keep, All-numbered, All_each', each_cong, map_cong, All-map}

-- the number of parts that each fixed kind has
arities : (0 < arity 1) × (1 < arity 1) × (0 < arity 2) × (1 < arity 2) × (2 < arity 2) × (0 < arity 7) × (1 < arity 7) × (0 < arity 9)
    × (0 < arity 13) × (1 < arity 13) × (0 < arity 14) × (1 < arity 14)
unfolding arity pick
arities = omega arith

module _ (t : Tree) (ordered : Ordered t) where
  -- a part of a fixed kind is below its owner
  fixed : (e kind k : ℕ) → eqb (expr_at t e).kind kind ≡ true → k < arity kind → part t e k < e
  fixed e kind k h hk = ordered.parts e k (subst (λ z. k < arity z) (sym (eqb-true _ _ h)) hk)

  -- an item that has an expression
  present : (e : ℕ) (i : Item) → is_none i.expression ≡ false → Below e i → i.expression < e
  present e i q (inl h) = h
  present e i q (inr h) = absurd (true≢false h.0 q)

  -- Scopes.
  abbrev LowerVisit : ℕ → ScopeVisit → Type 0
  LowerVisit e v = v.expr < e

  visiting-lower : (e : ℕ) (s : Scope) (l : List ℕ) → All (λ c. c < e) l → All (LowerVisit e) (visiting s l)
  unfolding visiting
  visiting-lower e s l h = All-map (LowerVisit e) _ l h

  children-lower : (e : ℕ) (s : Scope) (p : Item → Bool) → All (LowerVisit e) (visiting s (children t e p))
  unfolding children
  children-lower e s p =
      visiting-lower e s (map (λ i. i.expression) kept)
      (All-map (λ c. c < e) (λ i. i.expression) kept
      (All-keep (Below e) (λ i. i.expression < e) _ (expr_at t e).items
      (λ i h b. present e i (not-true _ (and_right (p i) _ h)) b)
      (ordered.items e)))
    where
      kept : List Item
      kept = keep (λ i. p i && not (is_none i.expression)) (expr_at t e).items

  bindings-lower : (e : ℕ) (s : Scope) → All (LowerVisit e) (binding_children t e s)
  unfolding binding_children
  bindings-lower e s =
      All-++ (LowerVisit e) (visiting s (children t e inherited)) (visiting (inside t e s) (children t e enclosed))
      (children-lower e s inherited)
      (children-lower e (inside t e s) enclosed)

  pub scopes_fall : (e : ℕ) (s : Scope) → All (LowerVisit e) (scope_children t e s)
  unfolding scope_children
  scopes_fall e s =
      pick_all (All (LowerVisit e)) (expr_at t e).kind _ _ (
        λ h. children-lower e (inside t e s) _,
        (
          λ h. bindings-lower e s,
          (
            λ h. bindings-lower e s,
            (
              λ h. All-++ (LowerVisit e) (visiting s (part t e 0 ∷ [])) (visiting (inside t e s) (part t e 1 ∷ []))
                  (visiting-lower e s (part t e 0 ∷ []) (fixed e 13 0 h arities.8, tt))
                  (visiting-lower e (inside t e s) (part t e 1 ∷ []) (fixed e 13 1 h arities.9, tt)),
              (
                λ h. visiting-lower e s (part t e 1 ∷ part t e 0 ∷ []) (fixed e 14 1 h arities.11, (fixed e 14 0 h arities.10, tt)),
                tt,
              ),
            ),
          ),
        ),
      )
      (children-lower e s _)

  scopes_same : (k j : ℕ) (v : ScopeVisit) → v.expr < k → v.expr < j → scope_visits t k v ≡ scope_visits t j v
  unfolding scope_visits
  scopes_same zero j v hk hj = absurd (omega arith)
  scopes_same (suc k) zero v hk hj = absurd (omega arith)
  scopes_same (suc k) (suc j) v hk hj =
      ap (λ z. v ∷ z)
      (each_cong _ _ (scope_children t v.expr v.scope)
      (All_to (LowerVisit v.expr) _ (scope_children t v.expr v.scope)
      (λ c hc. scopes_same k j c (omega arith) (omega arith))
      (scopes_fall v.expr v.scope)))

  scopes_is : (v : ScopeVisit) → scopes_from t v ≡ v ∷ each (scopes_from t) (scope_children t v.expr v.scope)
  unfolding scopes_from scope_visits
  scopes_is v =
      ap (λ z. v ∷ z)
      (each_cong _ _ (scope_children t v.expr v.scope)
      (All_to (LowerVisit v.expr) _ (scope_children t v.expr v.scope)
      (λ c hc. scopes_same v.expr (suc c.expr) c (omega arith) (omega arith))
      (scopes_fall v.expr v.scope)))

  -- Conditions.
  pub parts_fall : (c : ℕ) → All (λ p. p < c) (analysed (shape t c))
  unfolding shape analysed keyed
  parts_fall c =
      pick_all Low (expr_at t c).kind _ _ (
        λ h. tt,
        (
          λ h. pick_all Low (expr_at t c).detail _ _ (λ k. tt, (λ k. tt, (λ k. both h, (λ k. both h, (λ k. both h, tt))))) tt,
          (λ h. pick_all Low (expr_at t c).detail _ _ (λ k. (fixed c 9 0 h arities.7, tt), tt) tt, (λ h. key (single (path t c) >>= string_literal t), tt)),
        ),
      )
      tt
    where
      Low : Condition → Type 0
      Low s = All (λ p. p < c) (analysed s)

      both : eqb (expr_at t c).kind 7 ≡ true → All (λ p. p < c) (part t c 0 ∷ part t c 1 ∷ [])
      both h = (fixed c 7 0 h arities.5, (fixed c 7 1 h arities.6, tt))

      key : (o : Option ℕ) → Low (keyed (part t c 0) o)
      key None = tt
      key (Some k) = tt

  nodes-same : (k j c : ℕ) → c < k → c < j → nodes_in t k c ≡ nodes_in t j c
  unfolding nodes_in
  nodes-same zero j c hk hj = absurd (omega arith)
  nodes-same (suc k) zero c hk hj = absurd (omega arith)
  nodes-same (suc k) (suc j) c hk hj =
      ap (λ z. 1 + sum z)
      (map_cong _ _ (analysed (shape t c))
      (All_to (λ p. p < c) _ (analysed (shape t c)) (λ p hp. nodes-same k j p (omega arith) (omega arith)) (parts_fall c)))

  nodes-is : (c : ℕ) → nodes t c ≡ 1 + sum (map (nodes t) (analysed (shape t c)))
  unfolding nodes nodes_in
  nodes-is c =
      ap (λ z. 1 + sum z)
      (map_cong _ _ (analysed (shape t c))
      (All_to (λ p. p < c) _ (analysed (shape t c)) (λ p hp. nodes-same c (suc p) p (omega arith) (omega arith)) (parts_fall c)))

  module _ (tab : Tables) where
    node_cong : (f g : Bool → ℕ → List Narrowing) (b : Bool) (s : Condition) → All (λ p. (o : Bool) → f o p ≡ g o p) (analysed s) →
        node t tab f b s ≡ node t tab g b s
    unfolding node analysed
    node_cong f g b (equal l r) h = refl
    node_cong f g b (not_equal l r) h = refl
    node_cong f g true (and l r) h = ap (λ z. z ++ f true r) (h.0 true) ∙ ap (λ z. g true l ++ z) (h.1.0 true)
    node_cong f g false (and l r) h = refl
    node_cong f g true (or l r) h = refl
    node_cong f g false (or l r) h = ap (λ z. z ++ f false r) (h.0 false) ∙ ap (λ z. g false l ++ z) (h.1.0 false)
    node_cong f g true (implies l r) h = refl
    node_cong f g false (implies l r) h = ap (λ z. z ++ f false r) (h.0 true) ∙ ap (λ z. g true l ++ z) (h.1.0 false)
    node_cong f g b (call x a) h = refl
    node_cong f g b (has_key e k) h = refl
    node_cong f g b (invert e) h = h.0 (not b)
    node_cong f g b opaque h = refl

    analyze-same : (k j c : ℕ) (b : Bool) → c < k → c < j → analyze_in t tab k b c ≡ analyze_in t tab j b c
    unfolding analyze_in
    analyze-same zero j c b hk hj = absurd (omega arith)
    analyze-same (suc k) zero c b hk hj = absurd (omega arith)
    analyze-same (suc k) (suc j) c b hk hj =
        node_cong (analyze_in t tab k) (analyze_in t tab j) b (shape t c)
        (All_to (λ p. p < c) _ (analysed (shape t c)) (λ p hp o. analyze-same k j p o (omega arith) (omega arith)) (parts_fall c))

    analyze-is : (b : Bool) (c : ℕ) → analyze t tab b c ≡ node t tab (analyze t tab) b (shape t c)
    unfolding analyze analyze_in
    analyze-is b c =
        node_cong (analyze_in t tab c) _ b (shape t c)
        (All_to (λ p. p < c) _ (analysed (shape t c)) (λ p hp o. analyze-same c (suc p) p o (omega arith) (omega arith)) (parts_fall c))

    -- The walk.
    abbrev Lower : ℕ → Step → Type 0
    Lower e d = d.expr < e

    any-lower : (e : ℕ) (b : Option ℕ) (i : ℕ × Item) → Below e i.1 → All (Lower e) (any_item b i)
    unfolding any_item into
    any-lower e b i f = go (is_none i.1.expression) refl
      where
        go : (x : Bool) → is_none i.1.expression ≡ x → All (Lower e) (cond x [] (into b i.0 i.1.expression [] ∷ []))
        go true q = tt
        go false q = (present e i.1 q f, tt)

    -- roles 4 to 9 have an expression
    own-lower : (e role : ℕ) (i : ℕ × Item) → eqb i.1.role role ≡ true → 3 < role → role < 10 → Below e i.1 → All (Lower e) (own_item i)
    unfolding own_item
    own-lower e role i h h₃ h₁₀ (inl f) = (f, tt)
    own-lower e role i h h₃ h₁₀ (inr (f, inl r)) = absurd (omega (arith, eqb-true i.1.role role h, r))
    own-lower e role i h h₃ h₁₀ (inr (f, inr r)) = absurd (omega (arith, eqb-true i.1.role role h, r))

    let_lower : (e : ℕ) (b : Option ℕ) (i : ℕ × Item) → Below e i.1 → All (Lower e) (let_item b i)
    unfolding let_item
    let_lower e b i f =
        pick_all (All (Lower e)) i.1.role _ _ (
          λ h. own-lower e 4 i h (omega arith) (omega arith) f,
          (
            λ h. own-lower e 5 i h (omega arith) (omega arith) f,
            (
              λ h. own-lower e 6 i h (omega arith) (omega arith) f,
              (λ h. tt, (λ h. any-lower e None i f, (λ h. any-lower e None i f, tt))),
            ),
          ),
        )
        (any-lower e b i f)

    set-lower : (e : ℕ) (b : Option ℕ) (i : ℕ × Item) → Below e i.1 → All (Lower e) (set_item b i)
    unfolding set_item
    set-lower e b i f = pick_all (All (Lower e)) i.1.role _ _ (λ h. tt, tt) (any-lower e b i f)

    -- the items of an expression, each with its steps
    all-lower : (e : ℕ) (f : ℕ × Item → List Step) → ((i : ℕ × Item) → Below e i.1 → All (Lower e) (f i)) →
        All (Lower e) (each f (numbered 0 (expr_at t e).items))
    all-lower e f h =
        All_each' (Lower e) (λ i. Below e i.1) f (numbered 0 (expr_at t e).items) (All-numbered (Below e) 0 (expr_at t e).items (ordered.items e)) h

    set-or_rec : (e : ℕ) (b : Option ℕ) (x : Bool) → All (Lower e) (each (cond x (let_item b) (set_item b)) (numbered 0 (expr_at t e).items))
    set-or_rec e b true = all-lower e (let_item b) (let_lower e b)
    set-or_rec e b false = all-lower e (set_item b) (set-lower e b)

    pub steps_fall : (e : ℕ) (b : Option ℕ) → All (Lower e) (steps t tab e b)
    unfolding steps into
    steps_fall e b =
        pick_all (All (Lower e)) (expr_at t e).kind _ _ (
          λ h. (fixed e 1 0 h arities.0, (fixed e 1 1 h arities.1, tt)),
          (
            λ h. (fixed e 2 0 h arities.2, (fixed e 2 1 h arities.3, (fixed e 2 2 h arities.4, tt))),
            (
              λ h. (fixed e 14 0 h arities.10, (fixed e 14 1 h arities.11, tt)),
              (λ h. all-lower e (let_item b) (let_lower e b), (λ h. set-or_rec e b (eqb (expr_at t e).detail 1), tt)),
            ),
          ),
        )
        (all-lower e (any_item b) (any-lower e b))

    visits-same : (k j : ℕ) (s : Step) (way : List (ℕ × ℕ)) (ns : List Narrowing) → s.expr < k → s.expr < j →
        visits t tab k s way ns ≡ visits t tab j s way ns
    unfolding visits
    visits-same zero j s way ns hk hj = absurd (omega arith)
    visits-same (suc k) zero s way ns hk hj = absurd (omega arith)
    visits-same (suc k) (suc j) s way ns hk hj =
        ap (λ z. record { expr = s.expr; binding = s.binding; opens = s.opens; way = way; in_force = ns } ∷ z)
        (each_cong _ _ (steps t tab s.expr s.binding)
        (All_to (Lower s.expr) _ (steps t tab s.expr s.binding)
        (λ d hd. visits-same k j d (way ++ (s.expr, d.item) ∷ []) (ns ++ d.adds) (omega arith) (omega arith))
        (steps_fall s.expr s.binding)))

    visits-is : (s : Step) (way : List (ℕ × ℕ)) (ns : List Narrowing) →
        visits_from t tab s way ns ≡ record { expr = s.expr; binding = s.binding; opens = s.opens; way = way; in_force = ns }
        ∷ each (λ d. visits_from t tab d (way ++ (s.expr, d.item) ∷ []) (ns ++ d.adds)) (steps t tab s.expr s.binding)
    unfolding visits_from visits
    visits-is s way ns =
        ap (λ z. record { expr = s.expr; binding = s.binding; opens = s.opens; way = way; in_force = ns } ∷ z)
        (each_cong _ _ (steps t tab s.expr s.binding)
        (All_to (Lower s.expr) _ (steps t tab s.expr s.binding)
        (λ d hd. visits-same s.expr (suc d.expr) d (way ++ (s.expr, d.item) ∷ []) (ns ++ d.adds) (omega arith) (omega arith))
        (steps_fall s.expr s.binding)))

pub ordered-runs : OrderedRuns
unfolding scopes_from analyze nodes visits_from
ordered-runs t tab o = record {
  scopes_any = λ k v h. scopes_same t o k (suc v.expr) v h (omega arith);
  scopes_are = scopes_is t o;
  analyze-any = λ k b c h. analyze-same t o tab k (suc c) c b h (omega arith);
  analyze_are = analyze-is t o tab;
  nodes-any = λ k c h. nodes-same t o k (suc c) c h (omega arith);
  nodes_are = nodes-is t o;
  visits-any = λ k s way ns h. visits-same t o tab k (suc s.expr) s way ns h (omega arith);
  visits_are = visits-is t o tab;
}
