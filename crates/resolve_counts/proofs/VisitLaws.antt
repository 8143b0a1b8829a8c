-- What a visit leads to, by one rule for the items of every kind, and what it weighs.
use mathlib.Core.Path.{◌≡◌, refl, sym, ap, subst, ◌∙◌}
use mathlib.Core.Bool.{Bool, true, false, not, cond, ◌&&◌}
use mathlib.Core.Logic.{◌⊎◌, ⊎_elim}
use mathlib.Core.List.{List, [], ◌∷◌, ◌++◌, map, append-nil}
use Prim.Native.Nat.{ℕ, suc, ◌+◌, ◌*◌, ◌≤◌, ◌<◌}
use native.Mathlib.Nat.{add-mul}
use native.Mathlib.Omega.{arith}
use lib.Dec.{eqb}
use lib.ListN.{length, get_or}
use borrow.Author.Tests.{eq-eqb, eqb-true, eqb-false, ne_eqb}
use Rattle.semantics.specs.Base.{pick, empty, keep, listed, only, sum, All}
use Rattle.semantics.specs.Tree.{Tree, Item, no_item, is_none, expr_at, item_at, part, is_kind}
use Rattle.semantics.specs.Scopes.{defined, makes, children}
use Rattle.semantics.specs.Order.{arity}
use Rattle.semantics.proofs.BaseLaws.{true≢false, and-false, pick-each, All-map, All-keep, All_to, and_left}
use Rattle.image_fields.specs.Image.{expr_count, items_place, first_of, count_of, item_here, decode}
use Rattle.image_fields.proofs.ImageLaws.{tree-items}
use Rattle.image.specs.Inside.Accepted.{Accepted}
use Rattle.image.proofs.AcceptedLaws.{item-below}
use Rattle.image.proofs.OrderedLaws.{ordered, part_count, part-below}
use Rattle.resolve_laws.specs.Inside.Last.{parts_of, below}
use Rattle.resolve_laws.specs.Inside.Counts.{weigh, making}
use Rattle.resolve_laws.proofs.CountLaws.{weigh_nil, weight, weight_is}
use Rattle.resolve_laws.proofs.ItemLaws.{keeps, not_six, bindings-weigh}
use Rattle.resolve_defs.proofs.DefinitionLaws.{item_here_lem, an_item}
use Rattle.resolve_defs.proofs.ScopeLaws.{keep_same, each_item, no_static}
use Rattle.resolve_counts.specs.Inside.Visits.{leads, leaf, inner, leaves}

-- the expressions that items lead to
led : List Item → List ℕ
led is = map (λ i. i.expression) (keep leads is)

led_children : (t : Tree) (e : ℕ) → children t e not_six ≡ led (expr_at t e).items
unfolding children not_six led leads
led_children t e = refl

weigh_swap : (w : ℕ → ℕ) (x y : ℕ) → weigh w (x ∷ y ∷ []) ≡ weigh w (y ∷ x ∷ [])
unfolding weigh sum
weigh_swap w x y = omega arith

keep_all : {A : Type 0} (p : A → Bool) (l : List A) → All (λ x. p x ≡ true) l → keep p l ≡ l
unfolding keep listed only
keep_all p [] h = refl
keep_all p (x ∷ l) h = rw h.0 (ap (λ z. x ∷ z) (keep_all p l h.1))

two_of : {A : Type 0} (l : List A) (d : A) → length l ≡ 2 → l ≡ get_or l 0 d ∷ get_or l 1 d ∷ []
two_of [] d h = absurd (omega (arith, h))
two_of (x ∷ []) d h = absurd (omega (arith, h))
two_of (x ∷ y ∷ []) d h = refl
two_of (x ∷ y ∷ z ∷ l) d h = absurd (omega (arith, h))

pub lead_on : (i : Item) → (i.role ≡ 6 → ⊥) → (i.expression ≡ 16383 → ⊥) → leads i ≡ true
unfolding leads is_none
lead_on i a b = rw (ne_eqb i.role 6 a, ne_eqb i.expression 16383 b)

-- `push`: an item by its fields
pub lead_none : (i : Item) → i.expression ≡ 16383 → leads i ≡ false
unfolding leads is_none
lead_none i h = rw (eq-eqb i.expression 16383 h) (and-false (not (eqb i.role 6)))

pub lead_six : (i : Item) → i.role ≡ 6 → leads i ≡ false
unfolding leads
lead_six i h = rw (eq-eqb i.role 6 h)

pub leaf_so : (t : Tree) (c : ℕ) {n : ℕ} → n ≡ length (expr_at t c).items → n ≡ 0 → leaf t c ≡ true
unfolding leaf empty
leaf_so t c {n} h z = go (expr_at t c).items h
  where
    go : (is : List Item) → n ≡ length is → empty is ≡ true
    go [] g = refl
    go (i ∷ is) g = absurd (omega (arith, g, z))

pub leaf-not : (t : Tree) (c : ℕ) {n : ℕ} → n ≡ length (expr_at t c).items → (n ≡ 0 → ⊥) → leaf t c ≡ false
unfolding leaf empty
leaf-not t c {n} h z = go (expr_at t c).items h
  where
    go : (is : List Item) → n ≡ length is → empty is ≡ false
    go [] g = absurd (z g)
    go (i ∷ is) g = refl

-- what leads somewhere has an expression
led_some : (i : Item) → leads i ≡ true → i.expression ≡ 16383 → ⊥
unfolding leads is_none
led_some i h e = go (not (eqb i.role 6)) h
  where
    go : (b : Bool) → (b && not (eqb i.expression 16383)) ≡ true → ⊥
    go true g = true≢false (rw e at g) refl
    go false g = true≢false g refl

-- split by whether a leaf is led to
parted : (a b : Bool) (x : ℕ) → cond (a && not b) x 0 + cond (a && b) x 0 ≡ cond a x 0
parted true true x = omega arith
parted true false x = omega arith
parted false b x = omega arith

split-weigh : (t : Tree) (w : ℕ → ℕ) (is : List Item) → weigh w (inner t is) + weigh w (map (λ i. i.expression) (keep (λ i. leads i && leaf t i.expression) is)) ≡ weigh w (led is)
unfolding inner led
split-weigh t w is = keeps w _ _ leads (λ i x. parted (leads i) (leaf t i.expression) x) is

one_more : (n b : ℕ) → b + n * b ≡ suc n * b
one_more n b = omega (arith, add-mul 1 n b)

-- leaves of one weight
leaves-weigh : (t : Tree) (w : ℕ → ℕ) (b : ℕ) (is : List Item) → All (λ i. leads i ≡ true → leaf t i.expression ≡ true → w i.expression ≡ b) is
    → weigh w (map (λ i. i.expression) (keep (λ i. leads i && leaf t i.expression) is)) ≡ leaves t is * b
unfolding leaves keep listed only weigh sum
leaves-weigh t w b [] h = omega arith
leaves-weigh t w b (i ∷ is) h = go (leads i) (leaf t i.expression) h.0 (leaves-weigh t w b is h.1)
  where
    go : (x y : Bool) → (x ≡ true → y ≡ true → w i.expression ≡ b)
        → weigh w (map (λ i. i.expression) (keep (λ i. leads i && leaf t i.expression) is)) ≡ leaves t is * b
        → weigh w (map (λ i. i.expression) (listed (only (x && y) i) ++ keep (λ i. leads i && leaf t i.expression) is))
        ≡ length (listed (only (x && y) i) ++ keep (λ i. leads i && leaf t i.expression) is) * b
    go true true g k = ap (λ z. z + weigh w (map (λ i. i.expression) (keep (λ i. leads i && leaf t i.expression) is))) (g refl refl) ∙ ap (λ z. b + z) k ∙ one_more (leaves t is) b
    go true false g k = k
    go false y g k = k

two_with : arity 13 ≡ 2
unfolding arity pick
two_with = refl

two_assert : arity 14 ≡ 2
unfolding arity pick
two_assert = refl

-- an expression without items has no names
none-defined : (t : Tree) (e : ℕ) → (expr_at t e).items ≡ [] → empty (defined t e) ≡ true
unfolding defined keep empty
none-defined t e h = rw h

-- the item that a turn of `push` looks at
module _ (s : List ℕ) (a : Accepted s) (e : ℕ) (l : e < expr_count s) (k : ℕ) (m : k < count_of s e) {at : ℕ} (p : at ≡ items_place s + 4 * first_of s e + 4 * k) where
  pub item_read : get_or (expr_at (decode s) e).items k no_item ≡ item_here s at
  unfolding item_at
  item_read = item_here_lem s a e l k m (omega (arith, p))

  pub item_in : at + 4 ≤ length s
  item_in = (an_item s a e l k m {at = at} (omega (arith, p))).inside

  pub child-below : {c : ℕ} → c ≡ (item_here s at).expression → (c ≡ 16383 → ⊥) → c < e
  child-below {c} h n =
      let i : item_at (decode s) e k ≡ item_here s at = item_here_lem s a e l k m (omega (arith, p)) in
      ⊎_elim (λ b. rw h b) (λ z. absurd (n (h ∙ z)))
      (subst (λ i. (i.expression < e) ⊎ (i.expression ≡ 16383)) i (item-below s a e l k m))

-- of an accepted image
module _ (s : List ℕ) (a : Accepted s) where
  abbrev t : Tree
  t = decode s

  module _ (e : ℕ) (l : e < expr_count s) where
    -- what is led to is below
    led_below : All (λ i. leads i ≡ true → i.expression < e) (expr_at t e).items
    led_below = each_item s a e l _ (λ k m h. ⊎_elim (λ b. b) (λ n. absurd (led_some (item_at t e k) h n)) (item-below s a e l k m))

    all_led : ((expr_at t e).kind ≡ 5 → ⊥) → ((expr_at t e).kind ≡ 8 → ⊥) → children t e (λ i. true) ≡ led (expr_at t e).items
    unfolding children led leads
    all_led five eight = ap (map (λ i. i.expression)) (keep_same _ _ _ (each_item s a e l _ here))
      where
        here : (k : ℕ) → k < count_of s e → not (is_none (item_at t e k).expression) ≡ (not (eqb (item_at t e k).role 6) && not (is_none (item_at t e k).expression))
        here k m = rw (ne_eqb (item_at t e k).role 6 (λ h. no_static s a e l five eight k m (omega arith) (omega arith)))

    -- two parts
    parts_led : ((expr_at t e).kind ≡ 5 → ⊥) → ((expr_at t e).kind ≡ 8 → ⊥) → arity (expr_at t e).kind ≡ 2 → led (expr_at t e).items ≡ part t e 0 ∷ part t e 1 ∷ []
    unfolding led part item_at
    parts_led five eight two =
        ap (map (λ i. i.expression)) (keep_all leads _ (each_item s a e l _ here))
        ∙ ap (map (λ i. i.expression)) (two_of (expr_at t e).items no_item (tree-items s e l ∙ part_count s a e l (omega (arith, two)) ∙ two))
      where
        here : (k : ℕ) → k < count_of s e → leads (item_at t e k) ≡ true
        here k m =
            lead_on (item_at t e k) (λ h. no_static s a e l five eight k m (omega arith) (omega arith))
            (λ h. let b : (item_at t e k).expression < e = part-below s a e l k (omega (arith, two, part_count s a e l (omega (arith, two)))) in omega (arith, a.sized.exprs-few))

    -- one rule for all kinds
    below-weigh : (w : ℕ → ℕ) → weigh w (below t e) ≡ weigh w (led (expr_at t e).items)
    unfolding below parts_of
    below-weigh w =
        pick-each (λ (d : List ℕ × List ℕ). weigh w (d.0 ++ d.1) ≡ weigh w (led (expr_at t e).items)) (expr_at t e).kind _ _ (
          λ k. let z : (expr_at t e).kind ≡ 4 = eqb-true _ 4 k in ap (weigh w) (all_led (λ h. omega (arith, z)) (λ h. omega (arith, z))),
          (
            λ k. bindings-weigh t w e ∙ ap (weigh w) (led_children t e),
            (
              λ k. bindings-weigh t w e ∙ ap (weigh w) (led_children t e),
              (
                λ k. let z : (expr_at t e).kind ≡ 13 = eqb-true _ 13 k in ap (weigh w) (sym (parts_led (λ h. omega (arith, z)) (λ h. omega (arith, z)) (rw z two_with))),
                (λ k. let z : (expr_at t e).kind ≡ 14 = eqb-true _ 14 k in weigh_swap w _ _ ∙ ap (weigh w) (sym (parts_led (λ h. omega (arith, z)) (λ h. omega (arith, z)) (rw z two_assert))), tt),
              ),
            ),
          ),
        )
        (λ n. ap (weigh w) (append-nil _ ∙ all_led (eqb-false _ 5 n.1.0) (eqb-false _ 8 n.1.1.0)))

    -- a leaf leads nowhere, and makes no scope
    leaf_items : leaf t e ≡ true → (expr_at t e).items ≡ []
    unfolding leaf empty
    leaf_items h = go (expr_at t e).items h
      where
        go : (is : List Item) → empty is ≡ true → is ≡ []
        go [] g = refl
        go (i ∷ is) g = absurd (true≢false g refl)

    leaf-weigh : (w : ℕ → ℕ) → leaf t e ≡ true → weigh w (below t e) ≡ 0
    unfolding led keep
    leaf-weigh w h = below-weigh w ∙ ap (λ is. weigh w (led is)) (leaf_items h) ∙ weigh_nil w

    leaf-makes : leaf t e ≡ true → making t e ≡ 0
    unfolding making makes is_kind
    leaf-makes h = rw (ne_eqb (expr_at t e).kind 13 not_with, none-defined t e (leaf_items h))
      where
        not_with : (expr_at t e).kind ≡ 13 → ⊥
        not_with z =
            let c : count_of s e ≡ arity (expr_at t e).kind = part_count s a e l (rw (z, two_with) (omega arith)) in
            let d : count_of s e ≡ 2 = rw (z, two_with) at c in
            let f : length (expr_at t e).items ≡ 0 = ap length (leaf_items h) in
            omega (arith, tree-items s e l)

  module _ (g : ℕ → ℕ) where
    abbrev w : ℕ → ℕ
    w = weight t (ordered s a) g

    leaf_weight : (e : ℕ) → e < expr_count s → leaf t e ≡ true → w e ≡ g e
    unfolding weigh
    leaf_weight e l h = weight_is t (ordered s a) g e ∙ ap (λ z. g e + z) (leaf-weigh e l w h) ∙ omega arith

    -- what an expression weighs: itself, its leaves, and what else it leads to
    weight_parts : (b : ℕ) → ((e : ℕ) → e < expr_count s → leaf t e ≡ true → g e ≡ b) → (e : ℕ) → e < expr_count s
        → w e ≡ g e + leaves t (expr_at t e).items * b + sum (map w (inner t (expr_at t e).items))
    unfolding weigh
    weight_parts b same e l =
        let x : w e ≡ g e + weigh w (below t e) = weight_is t (ordered s a) g e in
        let y = below-weigh e l w in
        let z = split-weigh t w (expr_at t e).items in
        let u = leaves-weigh t w b (expr_at t e).items
        (All_to _ _ (expr_at t e).items (λ i f d k. let m : i.expression < e = f d in leaf_weight i.expression (omega arith) k ∙ same i.expression (omega arith) k) (led_below e l)) in
        omega (arith, x, y, z, u)

  -- steps
  pub steps_weight : (e : ℕ) → e < expr_count s
      → weight t (ordered s a) (λ e. 1) e ≡ 1 + leaves t (expr_at t e).items + sum (map (weight t (ordered s a) (λ e. 1)) (inner t (expr_at t e).items))
  steps_weight e l = omega (arith, weight_parts (λ e. 1) 1 (λ e l h. refl) e l)

  -- scopes
  pub scopes_weight : (e : ℕ) → e < expr_count s → weight t (ordered s a) (making t) e ≡ making t e + sum (map (weight t (ordered s a) (making t)) (inner t (expr_at t e).items))
  scopes_weight e l = omega (arith, weight_parts (making t) 0 leaf-makes e l)

  -- what is pushed is below
  pub inner_below : (e : ℕ) → e < expr_count s → All (λ c. c < e) (inner t (expr_at t e).items)
  unfolding inner
  inner_below e l =
      let p : Item → Bool = λ i. leads i && not (leaf t i.expression) in
      All-map (λ c. c < e) (λ (i : Item). i.expression) (keep p (expr_at t e).items)
      (All-keep (λ i. leads i ≡ true → i.expression < e) (λ i. i.expression < e) p (expr_at t e).items (λ i h f. f (and_left _ _ h)) (led_below e l))
