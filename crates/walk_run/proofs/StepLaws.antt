-- The items of an expression, each entered by its rule, are the steps down from it.
use Rattle.std.specs.Prelude.{Option, Some, None}
use mathlib.Core.Path.{◌≡◌, refl, ap, sym, ◌∙◌}
use mathlib.Core.Logic.{◌⊎◌, inl, inr}
use mathlib.Core.Bool.{Bool, true, false, cond, not, ◌&&◌}
use mathlib.Core.List.{List, [], ◌∷◌}
use Prim.Native.Nat.{ℕ, ◌<◌}
use native.Mathlib.Omega.{arith}
use native.Mathlib.Decide.{ℕ_discrete}
use lib.Dec.{eqb, leb}
use lib.ListN.{length, get_or}
use borrow.Author.Tests.{ne_eqb, eqb-true, eqb-false, leb-true}
use Rattle.semantics.specs.Base.{pick, found, numbered, each, All, ◌>>=◌}
use Rattle.semantics.specs.Tree.{Tree, Item, no_item, is_none, expr_at, item_at, part}
use Rattle.semantics.specs.Resolution.{Tables}
use Rattle.semantics.specs.Narrow.{Narrowing, analyze, call_condition}
use Rattle.semantics.specs.Walk.{Step, condition_at, into, any_item, own_item, let_item, set_item, steps}
use Rattle.semantics.specs.Order.{arity}
use Rattle.semantics.proofs.BaseLaws.{pick_later, pick-none, pick-each, each_cong, and_left, and_right, All_to, All-numbered, All-places}
use Rattle.image_fields.specs.Image.{expr_count, count_of, decode}
use Rattle.image_rules.specs.Rules.{Presence, has, name_presence, expr_presence}
use Rattle.image.specs.Inside.Accepted.{Accepted}
use Rattle.image_fields.proofs.ImageLaws.{tree-items}
use Rattle.image.proofs.AcceptedLaws.{item-below-owner, item-has-name}
use Rattle.image.proofs.OrderedLaws.{part_count, part-below}
use Rattle.narrow_texts.specs.Inside.Numbers.{numbered as binding_of}
use Rattle.walk_visit.specs.declared.Rule.{Rule}
use Rattle.walk_visit.specs.declared.Rule.TheVariants.{Bindings, Set}
use Rattle.walk_visit.specs.Inside.Steps.{guarded, guard_rule, rule_of, role_enters, enters_item, opens_at, bare_at, binding_in, adds_at, step_at}
use Rattle.walk_visit.proofs.ItemLaws.{others≢bindings, set≢bindings, guarded≢bindings, opens-none, bare-none}
use Rattle.walk_guard.proofs.AddsLaws.{adds_none, adds-at, outcomes, adds-first}

-- the step into an item under a rule
item_step : Rule → ℕ → List Narrowing → ℕ × Item → List Step
item_step rule b adds i =
    cond (enters_item rule i.1)
    (record { expr = i.1.expression; item = i.0; binding = binding_of (binding_in rule b i.1); opens = opens_at rule i.1.role; adds = adds } ∷ [])
    []

-- an item that is entered as it is
module _ (rule : Rule) (b : ℕ) (adds : List Narrowing) (k : ℕ) (i : Item) where
  any_step : {c : Option ℕ} → role_enters rule i.role ≡ true → opens_at rule i.role ≡ false → binding_of (binding_in rule b i) ≡ c
      → item_step rule b adds (k, i) ≡ cond (is_none i.expression) [] (into c k i.expression adds ∷ [])
  unfolding item_step enters_item into
  any_step {c} r o h = rw (r, o, h) (go (is_none i.expression))
    where
      go : (x : Bool) → cond {A = List Step} (not x && true) (record { expr = i.expression; item = k; binding = c; opens = false; adds = adds } ∷ []) []
          ≡ cond {A = List Step} x [] (record { expr = i.expression; item = k; binding = c; opens = false; adds = adds } ∷ [])
      go true = refl
      go false = refl

  kept-binding : opens_at rule i.role ≡ false → bare_at rule i.role ≡ false → binding_of (binding_in rule b i) ≡ binding_of b
  unfolding binding_in
  kept-binding o r = rw (o, r)

  no-binding : opens_at rule i.role ≡ false → bare_at rule i.role ≡ true → binding_of (binding_in rule b i) ≡ None
  unfolding binding_in binding_of is_none
  no-binding o r = rw (o, r)

-- a rule that no binding has
plain_step : (rule : Rule) → (rule ≡ Bindings → ⊥) → (b : ℕ) (adds : List Narrowing) (k : ℕ) (i : Item) → role_enters rule i.role ≡ true
    → item_step rule b adds (k, i) ≡ cond (is_none i.expression) [] (into (binding_of b) k i.expression adds ∷ [])
plain_step rule r b adds k i h =
    let o = sym (opens-none rule i.role r) in any_step rule b adds k i h o (kept-binding rule b adds k i o (sym (bare-none rule i.role r)))

-- the parts of what may have a condition
pub enters-part : (o : Bool) (role : ℕ) → role_enters (guard_rule o) role ≡ true
unfolding role_enters guard_rule
enters-part false role = refl
enters-part true role = refl

no_let : (o : Bool) → guard_rule o ≡ Bindings → ⊥
unfolding guard_rule
no_let false h = others≢bindings h
no_let true h = guarded≢bindings h

-- an item that is not entered
skipped : (rule : Rule) (b k : ℕ) (i : Item) → role_enters rule i.role ≡ false → item_step rule b [] (k, i) ≡ []
unfolding item_step enters_item
skipped rule b k i h = rw h (go (is_none i.expression))
  where
    go : (x : Bool) → ◌≡◌ {A = List Step} (cond (not x && false) (record { expr = i.expression; item = k; binding = binding_of (binding_in rule b i); opens = opens_at rule i.role; adds = [] } ∷ []) []) []
    go true = refl
    go false = refl

-- the items of a set that is not rec
set_skips : (role : ℕ) → role ≡ 6 → role_enters Set role ≡ false
unfolding role_enters
set_skips role h = rw h

set-enters : (role : ℕ) → eqb role 6 ≡ false → role_enters Set role ≡ true
unfolding role_enters
set-enters role h = rw h

set_step : (b k : ℕ) (i : Item) → item_step Set b [] (k, i) ≡ set_item (binding_of b) (k, i)
unfolding set_item any_item
set_step b k i =
    pick-each (λ l. item_step Set b [] (k, i) ≡ l) i.role ((6, []) ∷ []) (any_item (binding_of b) (k, i))
    (λ h. skipped Set b k i (set_skips i.role (eqb-true _ 6 h)), tt)
    (λ h. plain_step Set set≢bindings b [] k i (set-enters i.role h.0))

-- the items of a let and of a rec set: a binding's own expression is there, and has a name
pub record Own (i : Item) : Type 0 where
  pub there : opens_at Bindings i.role ≡ true → is_none i.expression ≡ false
  pub named : opens_at Bindings i.role ≡ true → binding_of i.name ≡ Some i.name

module _ (b k : ℕ) (i : Item) (own : Own i) where
  own_step : opens_at Bindings i.role ≡ true → eqb i.role 7 ≡ false → item_step Bindings b [] (k, i) ≡ own_item (k, i)
  unfolding item_step enters_item role_enters binding_in own_item
  own_step h g = rw (own.there h, g, h, own.named h)

  bare_step : role_enters Bindings i.role ≡ true → opens_at Bindings i.role ≡ false → bare_at Bindings i.role ≡ true → item_step Bindings b [] (k, i) ≡ any_item None (k, i)
  unfolding any_item
  bare_step r o h = any_step Bindings b [] k i r o (no-binding Bindings b [] k i o h)

  rest_step : role_enters Bindings i.role ≡ true → opens_at Bindings i.role ≡ false → bare_at Bindings i.role ≡ false → item_step Bindings b [] (k, i) ≡ any_item (binding_of b) (k, i)
  unfolding any_item
  rest_step r o h = any_step Bindings b [] k i r o (kept-binding Bindings b [] k i o h)

-- what each role is where bindings stand
let_skips : (role : ℕ) → role ≡ 7 → role_enters Bindings role ≡ false
unfolding role_enters
let_skips role h = rw h

role-own : (opens_at Bindings 4 ≡ true) × (opens_at Bindings 5 ≡ true) × (opens_at Bindings 6 ≡ true)
unfolding opens_at
role-own = (refl, refl, refl)

role-bare : ((role_enters Bindings 8 ≡ true) × (opens_at Bindings 8 ≡ false) × (bare_at Bindings 8 ≡ true)) × ((role_enters Bindings 9 ≡ true) × (opens_at Bindings 9 ≡ false) × (bare_at Bindings 9 ≡ true))
unfolding role_enters opens_at bare_at
role-bare = ((refl, refl, refl), (refl, refl, refl))

module _ (role : ℕ) (n₄ : eqb role 4 ≡ false) (n₅ : eqb role 5 ≡ false) (n₆ : eqb role 6 ≡ false) where
  not_own : opens_at Bindings role ≡ false
  unfolding opens_at
  not_own = go (leb 4 role) refl (leb role 6) refl
    where
      go : (x : Bool) → leb 4 role ≡ x → (y : Bool) → leb role 6 ≡ y → (x && y) ≡ false
      go false p y q = refl
      go true p false q = refl
      go true p true q = absurd (omega (arith, leb-true 4 role p, leb-true role 6 q, eqb-false role 4 n₄, eqb-false role 5 n₅, eqb-false role 6 n₆))

  module _ (n₇ : eqb role 7 ≡ false) (n₈ : eqb role 8 ≡ false) (n₉ : eqb role 9 ≡ false) where
    still-enters : role_enters Bindings role ≡ true
    unfolding role_enters
    still-enters = rw n₇

    not-bare : bare_at Bindings role ≡ false
    unfolding bare_at
    not-bare = rw (n₈, n₉)

let_step : (b k : ℕ) (i : Item) → Own i → item_step Bindings b [] (k, i) ≡ let_item (binding_of b) (k, i)
unfolding let_item
let_step b k i own =
    pick-each (λ l. item_step Bindings b [] (k, i) ≡ l) i.role _ (any_item (binding_of b) (k, i)) (
      λ h. own_step b k i own (ap (opens_at Bindings) (eqb-true _ 4 h) ∙ role-own.0) (other 7 4 h (λ z. absurd (omega arith))),
      (
        λ h. own_step b k i own (ap (opens_at Bindings) (eqb-true _ 5 h) ∙ role-own.1) (other 7 5 h (λ z. absurd (omega arith))),
        (
          λ h. own_step b k i own (ap (opens_at Bindings) (eqb-true _ 6 h) ∙ role-own.2) (other 7 6 h (λ z. absurd (omega arith))),
          (
            λ h. skipped Bindings b k i (let_skips i.role (eqb-true _ 7 h)),
            (
              λ h. let e = eqb-true i.role 8 h in bare_step b k i own (ap (role_enters Bindings) e ∙ role-bare.0.0) (ap (opens_at Bindings) e ∙ role-bare.0.1) (ap (bare_at Bindings) e ∙ role-bare.0.2),
              (λ h. let e = eqb-true i.role 9 h in bare_step b k i own (ap (role_enters Bindings) e ∙ role-bare.1.0) (ap (opens_at Bindings) e ∙ role-bare.1.1) (ap (bare_at Bindings) e ∙ role-bare.1.2), tt),
            ),
          ),
        ),
      ),
    )
    (λ h. rest_step b k i own
    (still-enters i.role h.0 h.1.0 h.1.1.0 h.1.1.1.0 h.1.1.1.1.0 h.1.1.1.1.1.0)
    (not_own i.role h.0 h.1.0 h.1.1.0)
    (not-bare i.role h.0 h.1.0 h.1.1.0 h.1.1.1.0 h.1.1.1.1.0 h.1.1.1.1.1.0))
  where
    other : (n m : ℕ) → eqb i.role m ≡ true → (m ≡ n → ⊥) → eqb i.role n ≡ false
    other n m h d = ne_eqb i.role n (λ z. d (sym (eqb-true _ m h) ∙ z))

-- a list of two, of three
two_of : (l : List Item) → length l ≡ 2 → l ≡ get_or l 0 no_item ∷ get_or l 1 no_item ∷ []
two_of [] h = absurd (omega arith)
two_of (x ∷ []) h = absurd (omega arith)
two_of (x ∷ y ∷ []) h = refl
two_of (x ∷ y ∷ z ∷ l) h = absurd (omega arith)

three_of : (l : List Item) → length l ≡ 3 → l ≡ get_or l 0 no_item ∷ get_or l 1 no_item ∷ get_or l 2 no_item ∷ []
three_of [] h = absurd (omega arith)
three_of (x ∷ []) h = absurd (omega arith)
three_of (x ∷ y ∷ []) h = absurd (omega arith)
three_of (x ∷ y ∷ z ∷ []) h = refl
three_of (x ∷ y ∷ z ∷ w ∷ l) h = absurd (omega arith)

-- the steps of an expression, kind by kind
module _ (t : Tree) (tab : Tables) (e : ℕ) where
  abbrev kind : ℕ
  kind = (expr_at t e).kind

  abbrev rule : Rule
  rule = rule_of t e

  step_is : (b : ℕ) (i : ℕ × Item) → step_at t tab e b i ≡ item_step rule b (adds_at t tab e i.0) i
  unfolding step_at item_step
  step_is b i = refl

  condition_let : kind ≡ 5 → condition_at t tab e ≡ None
  unfolding condition_at pick
  condition_let h = rw h

  condition-set : kind ≡ 8 → condition_at t tab e ≡ None
  unfolding condition_at pick
  condition-set h = rw h

  condition_if : (kind ≡ 2) ⊎ (kind ≡ 14) → condition_at t tab e ≡ Some (part t e 0)
  unfolding condition_at pick
  condition_if (inl h) = rw h
  condition_if (inr h) = rw h

  condition-apply : kind ≡ 1 → condition_at t tab e ≡ call_condition t tab (part t e 0)
  unfolding condition_at pick
  condition-apply h = rw h

  pub condition-other : eqb kind 1 ≡ false → eqb kind 2 ≡ false → eqb kind 14 ≡ false → condition_at t tab e ≡ None
  unfolding condition_at
  condition-other a b c = pick_later kind _ _ None a ∙ pick_later kind _ _ None b ∙ pick_later kind _ _ None c ∙ pick-none kind None

  -- the rule of each kind
  rule_five : kind ≡ 5 → rule ≡ Bindings
  unfolding rule_of pick
  rule_five h = rw h

  rule_eight : kind ≡ 8 → rule ≡ cond (eqb (expr_at t e).detail 1) Bindings Set
  unfolding rule_of pick
  rule_eight h = rw h

  pub rule_other : eqb kind 5 ≡ false → eqb kind 8 ≡ false → rule ≡ guard_rule (guarded t e)
  unfolding rule_of
  rule_other a b = pick_later kind _ _ _ a ∙ pick_later kind _ _ _ b ∙ pick-none kind _

  -- each item as the definition enters it
  abbrev items : List (ℕ × Item)
  items = numbered 0 (expr_at t e).items

  by_item : (r : Rule) (b : ℕ) (f : ℕ × Item → List Step) → rule ≡ r → condition_at t tab e ≡ None → All (λ i. item_step r b [] i ≡ f i) items → each (step_at t tab e b) items ≡ each f items
  by_item r b f h n a = each_cong (step_at t tab e b) f items (All_to (λ i. item_step r b [] i ≡ f i) (λ i. step_at t tab e b i ≡ f i) items (λ i q. step_is b i ∙ rw (h, adds_none t tab e i.0 n) q) a)

  all-items : {P : ℕ × Item → Type 0} → ((i : ℕ × Item) → P i) → (l : List (ℕ × Item)) → All P l
  all-items f [] = tt
  all-items f (i ∷ l) = (f i, all-items f l)

  let_all : (b : ℕ) → rule ≡ Bindings → condition_at t tab e ≡ None → All (λ i. Own i.1) items → each (step_at t tab e b) items ≡ each (let_item (binding_of b)) items
  let_all b h n o = by_item Bindings b (let_item (binding_of b)) h n (All_to (λ i. Own i.1) (λ i. item_step Bindings b [] i ≡ let_item (binding_of b) i) items (λ i q. let_step b i.0 i.1 q) o)

  set_all : (b : ℕ) → rule ≡ Set → condition_at t tab e ≡ None → each (step_at t tab e b) items ≡ each (set_item (binding_of b)) items
  set_all b h n = by_item Set b (set_item (binding_of b)) h n (all-items (λ i. set_step b i.0 i.1) items)

  any-all : (b : ℕ) → rule ≡ guard_rule (guarded t e) → condition_at t tab e ≡ None → each (step_at t tab e b) items ≡ each (any_item (binding_of b)) items
  unfolding any_item
  any-all b h n =
      by_item (guard_rule (guarded t e)) b (any_item (binding_of b)) h n
      (all-items (λ i. plain_step (guard_rule (guarded t e)) (no_let (guarded t e)) b [] i.0 i.1 (enters-part (guarded t e) i.1.role)) items)

  -- a part of what may have a condition
  part_step : (b k : ℕ) {adds : List Narrowing} → rule ≡ guard_rule (guarded t e) → is_none (part t e k) ≡ false → adds_at t tab e k ≡ adds → step_at t tab e b (k, item_at t e k) ≡ into (binding_of b) k (part t e k) adds ∷ []
  unfolding part
  part_step b k h n q = step_is b (k, item_at t e k) ∙ rw (h, q) (plain_step (guard_rule (guarded t e)) (no_let (guarded t e)) b _ k (item_at t e k) (enters-part (guarded t e) (item_at t e k).role) ∙ rw n)

  -- what is added at each place
  adds-call : kind ≡ 1 → adds_at t tab e 1 ≡ found (call_condition t tab (part t e 0) >>= λ c. Some (analyze t tab true c))
  unfolding found ◌>>=◌
  adds-call h = go (call_condition t tab (part t e 0)) (condition-apply h)
    where
      go : (o : Option ℕ) → condition_at t tab e ≡ o → adds_at t tab e 1 ≡ found (o >>= λ c. Some (analyze t tab true c))
      go None q = adds_none t tab e 1 q
      go (Some c) q = adds-at t tab e 1 c true q (outcomes t tab e).1

-- an expression of an accepted image
presences : (name_presence 4 ≡ has) × (name_presence 5 ≡ has) × (name_presence 6 ≡ has) × (expr_presence 4 ≡ has) × (expr_presence 5 ≡ has) × (expr_presence 6 ≡ has)
unfolding name_presence expr_presence pick
presences = (refl, refl, refl, refl, refl, refl)

own-role : (f : ℕ → Presence) → f 4 ≡ has → f 5 ≡ has → f 6 ≡ has → (role : ℕ) → opens_at Bindings role ≡ true → f role ≡ has
unfolding opens_at
own-role f p q r role h = elim (ℕ_discrete role 4) [
  | yes e ↦ rw e p
  | no e ↦ elim (ℕ_discrete role 5) [
    | yes g ↦ rw g q
    | no g ↦
        let i : role ≡ 6 = omega (arith, leb-true 4 role (and_left (leb 4 role) (leb role 6) h), leb-true role 6 (and_right (leb 4 role) (leb role 6) h), e, g) in
        rw i r
  ]
]

module _ (s : List ℕ) (a : Accepted s) (tab : Tables) (e : ℕ) (l : e < expr_count s) where
  abbrev t' : Tree
  t' = decode s

  pub own_at : (k : ℕ) → k < length (expr_at t' e).items → Own (item_at t' e k)
  unfolding is_none binding_of
  own_at k m =
      record {
        there = λ o. ne_eqb (item_at t' e k).expression 16383 (λ z. absurd (omega (arith, z, item-below-owner s a e l k n (own-role expr_presence presences.3 presences.4 presences.5 _ o), a.sized.exprs-few)));
        named = λ o. let q : (item_at t' e k).name ≡ 16383 → ⊥ = λ z. absurd (omega (arith, z, item-has-name s a e l k n (own-role name_presence presences.0 presences.1 presences.2 _ o), a.sized.names-few)) in
            rw (ne_eqb (item_at t' e k).name 16383 q);
      }
    where
      n : k < count_of s e
      n = rw (tree-items s e l) at m

  own-all : All (λ i. Own i.1) (numbered 0 (expr_at t' e).items)
  unfolding item_at
  own-all = All-numbered Own 0 (expr_at t' e).items (All-places Own (expr_at t' e).items no_item own_at)

  -- the parts of what may have a condition are there
  module _ (n : ℕ) (q : arity (expr_at t' e).kind ≡ n) (o : 0 < n) where
    pub parts-many : length (expr_at t' e).items ≡ n
    parts-many = tree-items s e l ∙ part_count s a e l (omega (arith, q)) ∙ q

    part_there : (k : ℕ) → k < n → is_none (part t' e k) ≡ false
    unfolding is_none
    part_there k m = ne_eqb (part t' e k) 16383 (λ z. absurd (omega (arith, z, part-below s a e l k (omega (arith, q)), a.sized.exprs-few)))

  pub arities : (arity 1 ≡ 2) × (arity 2 ≡ 3) × (arity 14 ≡ 2)
  unfolding arity pick
  arities = (refl, refl, refl)

  two_steps : (b : ℕ) {adds : List Narrowing} → rule_of t' e ≡ guard_rule (guarded t' e) → arity (expr_at t' e).kind ≡ 2 → adds_at t' tab e 1 ≡ adds
      → each (step_at t' tab e b) (numbered 0 (expr_at t' e).items) ≡ into (binding_of b) 0 (part t' e 0) [] ∷ into (binding_of b) 1 (part t' e 1) adds ∷ []
  unfolding each numbered item_at
  two_steps b r q h =
      ap (λ is. each (step_at t' tab e b) (numbered 0 is)) (two_of (expr_at t' e).items (parts-many 2 q (omega arith)))
      ∙ rw (
        part_step t' tab e b 0 r (part_there 2 q (omega arith) 0 (omega arith)) (adds-first t' tab e),
        part_step t' tab e b 1 r (part_there 2 q (omega arith) 1 (omega arith)) h,
      )

  three_steps : (b : ℕ) {thens elses : List Narrowing} → rule_of t' e ≡ guard_rule (guarded t' e) → arity (expr_at t' e).kind ≡ 3 → adds_at t' tab e 1 ≡ thens → adds_at t' tab e 2 ≡ elses
      → each (step_at t' tab e b) (numbered 0 (expr_at t' e).items)
      ≡ into (binding_of b) 0 (part t' e 0) [] ∷ into (binding_of b) 1 (part t' e 1) thens ∷ into (binding_of b) 2 (part t' e 2) elses ∷ []
  unfolding each numbered item_at
  three_steps b r q h g =
      ap (λ is. each (step_at t' tab e b) (numbered 0 is)) (three_of (expr_at t' e).items (parts-many 3 q (omega arith)))
      ∙ rw (
        part_step t' tab e b 0 r (part_there 3 q (omega arith) 0 (omega arith)) (adds-first t' tab e),
        part_step t' tab e b 1 r (part_there 3 q (omega arith) 1 (omega arith)) h,
        part_step t' tab e b 2 r (part_there 3 q (omega arith) 2 (omega arith)) g,
      )

  -- THE STEPS are the items, each entered by its rule
  pub steps_all : (b : ℕ) → each (step_at t' tab e b) (numbered 0 (expr_at t' e).items) ≡ steps t' tab e (binding_of b)
  unfolding steps
  steps_all b =
      pick-each (λ ds. each (step_at t' tab e b) (numbered 0 (expr_at t' e).items) ≡ ds) (expr_at t' e).kind _ _ (
        λ h. let k = eqb-true (expr_at t' e).kind 1 h in
            two_steps b (rule_other t' tab e (other 1 5 k (λ z. absurd (omega arith))) (other 1 8 k (λ z. absurd (omega arith)))) (ap arity k ∙ arities.0) (adds-call t' tab e k),
        (
          λ h. let k = eqb-true (expr_at t' e).kind 2 h in
              three_steps b (rule_other t' tab e (other 2 5 k (λ z. absurd (omega arith))) (other 2 8 k (λ z. absurd (omega arith)))) (ap arity k ∙ arities.1)
              (adds-at t' tab e 1 _ true (condition_if t' tab e (inl k)) (outcomes t' tab e).1) (adds-at t' tab e 2 _ false (condition_if t' tab e (inl k)) (outcomes t' tab e).2),
          (
            λ h. let k = eqb-true (expr_at t' e).kind 14 h in
                two_steps b (rule_other t' tab e (other 14 5 k (λ z. absurd (omega arith))) (other 14 8 k (λ z. absurd (omega arith)))) (ap arity k ∙ arities.2)
                (adds-at t' tab e 1 _ true (condition_if t' tab e (inr k)) (outcomes t' tab e).1),
            (
              λ h. let k = eqb-true (expr_at t' e).kind 5 h in
                  let_all t' tab e b (rule_five t' tab e k) (condition_let t' tab e k) own-all,
              (λ h. let k = eqb-true (expr_at t' e).kind 8 h in set-or_rec k (eqb (expr_at t' e).detail 1) refl, tt),
            ),
          ),
        ),
      )
      (λ h. any-all t' tab e b (rule_other t' tab e h.1.1.1.0 h.1.1.1.1.0) (condition-other t' tab e h.0 h.1.0 h.1.1.0))
    where
      other : (m n : ℕ) → (expr_at t' e).kind ≡ m → (m ≡ n → ⊥) → eqb (expr_at t' e).kind n ≡ false
      other m n h d = ne_eqb (expr_at t' e).kind n (λ z. d (sym h ∙ z))

      set-or_rec : (expr_at t' e).kind ≡ 8 → (x : Bool) → eqb (expr_at t' e).detail 1 ≡ x
          → each (step_at t' tab e b) (numbered 0 (expr_at t' e).items) ≡ each (cond x (let_item (binding_of b)) (set_item (binding_of b))) (numbered 0 (expr_at t' e).items)
      set-or_rec k true q = let_all t' tab e b (rule_eight t' tab e k ∙ rw q) (condition-set t' tab e k) own-all
      set-or_rec k false q = set_all t' tab e b (rule_eight t' tab e k ∙ rw q) (condition-set t' tab e k)
