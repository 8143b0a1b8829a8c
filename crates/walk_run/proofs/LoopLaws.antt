-- The loop of `traverse_bindings`: what is left to visit from an item on gives what is to visit in all.
use Rattle.std.specs.Prelude.{Some}
use mathlib.Core.Path.{◌≡◌, refl, ap, sym, subst, ◌∙◌}
use mathlib.Core.Logic.{◌⊎◌, inl, inr, ⊎_elim}
use mathlib.Core.Bool.{Bool, true, false, cond, not}
use mathlib.Core.List.{List, [], ◌∷◌, ◌++◌, map, append-nil}
use Prim.Native.Nat.{ℕ, zero, suc, ◌+◌, ◌*◌, ◌-◌, ◌%◌, ◌^◌, ◌≤◌, ◌<◌}
use native.Mathlib.Nat.{max-zero}
use native.Mathlib.Numerals.{add-one}
use native.Mathlib.Omega.{arith}
use native.Mathlib.Decide.{ℕ_discrete}
use lib.ListN.{length, get_or, drop, drop_of_length-le, length-map}
use lib.Seq.{drop-cons}
use borrow.Author.Tests.{eq-eqb, ne_eqb}
use Rattle.semantics.specs.Base.{pick, sum, listed, numbered, each}
use Rattle.semantics.specs.Tree.{Tree, Item, no_item, is_none, expr_at, item_at}
use Rattle.semantics.specs.Resolution.{Tables}
use Rattle.semantics.specs.Narrow.{Narrowing}
use Rattle.semantics.specs.Walk.{Step, steps, visits, visits_from}
use Rattle.semantics.specs.Order.{RunToEnd}
use Rattle.semantics.proofs.BaseLaws.{true≢false, and_left, pick_later, pick-none}
use Rattle.semantics.proofs.OrderLaws.{ordered-runs}
use Rattle.image_fields.specs.Image.{expr_count, name_count, count_of, first_of, items_place, item_place, item_here, decode}
use Rattle.image.specs.Inside.Accepted.{Accepted}
use Rattle.image_fields.proofs.ImageLaws.{tree-items}
use Rattle.image.proofs.AcceptedLaws.{item-below, item-named}
use Rattle.image.proofs.OrderedLaws.{ordered}
use Rattle.lent.specs.Inside.Stores.{entered}
use Rattle.resolve_defs.proofs.DefinitionLaws.{item_here_lem, an_item}
use Rattle.given.specs.Given.{given}
use Rattle.narrow_texts.specs.Inside.Numbers.{numbered as binding_of}
use Rattle.narrow_leaf.specs.Inside.Told.{record_number}
use Rattle.narrow_run.specs.Inside.Run.{stored}
use Rattle.narrow_run.proofs.RunLaws.{fed-none}
use Rattle.walk_visit.specs.declared.State.{State}
use Rattle.walk_visit.specs.declared.Rule.{Rule}
use Rattle.walk_visit.specs.declared.Rule.TheVariants.{Others, Bindings}
use Rattle.walk_visit.specs.Inside.Steps.{guarded, rule_of, role_enters, enters_item, opens_at, bare_at, binding_in, nodes_at, counted_at, adds_at, step_at}
use Rattle.walk_visit.proofs.ItemLaws.{has_part, part_in, guarded≢bindings, others≢guarded, opens-bindings}
use Rattle.walk_run.specs.Inside.Effects.{Effect, joined, spent, opening, doing, recorded_numbers}
use Rattle.walk_visit.specs.Inside.Parts.{records_of, Bound}
use Rattle.walk_places.specs.Inside.Places.{Skipped}
use Rattle.walk_guard.specs.Inside.Added.{credit, Ready, Ruled, Behind, Inside}
use Rattle.walk_run.specs.Inside.Run.{Sheet, sheet, Stands, Went, Ran, Opened, step_to, visits_below, Traversed}
use Rattle.walk_run.specs.Inside.Items.{owed, paid_at, left_of, from_item, Rest, Going}
use Rattle.walk_run.proofs.WorkLaws.{low, stored_low, stands-kept, stands-more, kept-fed}
use Rattle.walk_run.proofs.EffectLaws.{spent_later, spent-parts, doing-++, visits_open}
use Rattle.walk_run.proofs.RanLaws.{went-same, went_then, went-any, ran-nothing, ran_then, ran_over, ran-stop}
use Rattle.walk_run.proofs.StepLaws.{Own, own_at, steps_all, enters-part, condition-other, rule_other}
use Rattle.walk_guard.proofs.GuardLaws.{rule_unguarded}

numbered-many : {A : Type 0} (k : ℕ) (l : List A) → length (numbered k l) ≡ length l
unfolding numbered
numbered-many k [] = refl
numbered-many k (x ∷ l) = ap suc (numbered-many (suc k) l)

numbered_get : {A : Type 0} (i k : ℕ) (l : List A) (d : A) → k < length l → get_or (numbered i l) k (0, d) ≡ (i + k, get_or l k d)
unfolding numbered
numbered_get i k [] d h = absurd (omega arith)
numbered_get i zero (x ∷ l) d h = ap (λ n. (n, x)) (omega arith)
numbered_get i (suc k) (x ∷ l) d h = numbered_get (suc i) k l d (omega arith) ∙ ap (λ n. (n, get_or l k d)) (omega arith)

-- What is recorded under a name, as numbers: the low 32 bits of a record are stored and read again.
low-low : (x : ℕ) → low (low x) ≡ low x
low-low x = omega arith

recorded-low : (name : ℕ) (rs : List Narrowing) → map low (records_of name (map (λ r. record_number r % 2 ^ 32) rs)) ≡ map low (recorded_numbers (map (λ r. (name, r)) rs))
unfolding records_of recorded_numbers each
recorded-low name [] = refl
recorded-low name (r ∷ rs) = rw (low-low (record_number r)) (ap (λ l. low (name * 2 ^ 18) ∷ low (record_number r) ∷ l) (recorded-low name rs))

-- `open_binding`, as far as the rest of the loop looks at it
record Passed (force : ℕ) (state state' : State) : Type 0 where
  left : state'.left ≡ state.left
  edges : state'.edges ≡ state.edges
  most : state'.most ≡ state.most
  less : state.recorded ≤ state'.recorded
  more : state'.recorded ≤ state.recorded + force

module _ {rule : Rule} {role name e force : ℕ} {w : List ℕ} {state : State} {narrowings exprs : List ℕ} {state' : State} {narrowings' exprs' : List ℕ} (b : Bound rule role name e force w state narrowings exprs state' narrowings' exprs') where
  passed : Passed force state state'
  passed = go (opens_at rule role) refl
    where
      go : (x : Bool) → opens_at rule role ≡ x → Passed force state state'
      go true h =
          let r = b.opened h in
          record { left = r.left; edges = r.edges; most = r.most; less = omega (arith, r.recorded); more = omega (arith, r.recorded) }
      go false h =
          let q = (b.same h).0 in
          rw q (record { left = refl; edges = refl; most = refl; less = omega arith; more = omega arith })

  -- it is a binding's own expression
  open_ran : (edges : List ℕ) (rs : List Narrowing) → opens_at rule role ≡ true → Stands rs force w → force ≤ state.most → length narrowings' ≡ length narrowings
      → Ran (opening name e rs) (sheet state edges narrowings exprs w) (sheet state' edges narrowings' exprs' w)
  unfolding entered
  open_ran edges rs h k m long =
      let r = b.opened h in
      record {
        count = omega (arith, r.left);
        edges = λ o. rw r.edges (fed-none _ _);
        most = λ o. r.most ∙ sym (max-zero state.most);
        recorded = λ o. omega (arith, r.recorded, k.number, length-map {B = ℕ × Narrowing} rs (λ x. (name, x)));
        exprs = λ o. r.bound;
        narrowings = λ o y.
            r.copied (omega (arith, y.working, r.most)) (omega (arith, y.narrowings, r.recorded, long))
            ∙ ap (λ l. stored (records_of name l) (2 * state.recorded) narrowings) (k.records (omega (arith, y.working, r.most)))
            ∙ sym (stored_low (records_of name (map (λ z. record_number z % 2 ^ 32) rs)) (2 * state.recorded) narrowings)
            ∙ ap (λ l. stored l (2 * state.recorded) narrowings) (recorded-low name rs)
            ∙ stored_low (recorded_numbers (map (λ z. (name, z)) rs)) (2 * state.recorded) narrowings;
      }

-- The nodes of the condition.
module _ (t : Tree) (tab : Tables) (e : ℕ) where
  module _ (k : ℕ) (h : k ≡ 0 → ⊥) (g : k ≡ 1 → ⊥) where
    owed_late : owed t tab e k ≡ 0
    unfolding owed
    owed_late = pick_later k _ _ 0 (ne_eqb k 0 h) ∙ pick_later k _ _ 0 (ne_eqb k 1 g) ∙ pick-none k 0

    paid_late : paid_at t tab e k ≡ nodes_at t tab e
    unfolding paid_at
    paid_late = pick_later k _ _ _ (ne_eqb k 0 h) ∙ pick_later k _ _ _ (ne_eqb k 1 g) ∙ pick-none k (nodes_at t tab e)

    counted_late : counted_at t tab e k ≡ 0
    unfolding counted_at
    counted_late = pick_later k _ _ 0 (ne_eqb k 1 g) ∙ pick-none k 0

  -- .. at the first two items
  count-start : (owed t tab e 0 ≡ nodes_at t tab e) × (counted_at t tab e 0 ≡ 0) × (paid_at t tab e 0 ≡ 0)
  unfolding owed counted_at paid_at pick
  count-start = (refl, refl, refl)

  count_next : (owed t tab e 1 ≡ nodes_at t tab e) × (counted_at t tab e 1 ≡ nodes_at t tab e) × (paid_at t tab e 1 ≡ 0)
  unfolding owed counted_at paid_at pick
  count_next = (refl, refl, refl)

  -- one item more
  record Counts (k : ℕ) : Type 0 where
    owes : owed t tab e k ≡ counted_at t tab e k + owed t tab e (k + 1)
    pays : paid_at t tab e (k + 1) ≡ paid_at t tab e k + counted_at t tab e k

  counts : (k : ℕ) → Counts k
  counts k = elim (ℕ_discrete k 0) [
    | yes z ↦ rw z (record { owes = omega (arith, count-start.0, count-start.1, count_next.0); pays = omega (arith, count-start.1, count-start.2, count_next.2) })
    | no z ↦ elim (ℕ_discrete k 1) [
      | yes y ↦
          rw y
          (record {
            owes = omega (arith, count_next.0, count_next.1, owed_late 2 (λ x. absurd (omega arith)) (λ x. absurd (omega arith)));
            pays = omega (arith, count_next.1, count_next.2, paid_late 2 (λ x. absurd (omega arith)) (λ x. absurd (omega arith)));
          })
      | no y ↦
          record {
            owes = omega (arith, owed_late k z y, counted_late k z y, owed_late (k + 1) (λ x. absurd (omega arith)) (λ x. absurd (omega arith)));
            pays = omega (arith, paid_late k z y, counted_late k z y, paid_late (k + 1) (λ x. absurd (omega arith)) (λ x. absurd (omega arith)));
          }
    ]
  ]

-- nothing is counted before the first item, nor where no rule holds
pub paid-none : (t : Tree) (tab : Tables) (e : ℕ) → paid_at t tab e 0 ≡ 0
paid-none t tab e = (count-start t tab e).2

pub paid-bare : (t : Tree) (tab : Tables) (e k : ℕ) → Others ≡ rule_of t e → paid_at t tab e k ≡ 0
unfolding nodes_at listed sum
paid-bare t tab e k h = elim (ℕ_discrete k 0) [
  | yes z ↦ rw z (count-start t tab e).2
  | no z ↦ elim (ℕ_discrete k 1) [
    | yes y ↦ rw y (count_next t tab e).2
    | no y ↦ paid_late t tab e k z y ∙ rw (rule_unguarded t tab e (λ x. others≢guarded (h ∙ x)))
  ]
]

pub paid-from : (t : Tree) (tab : Tables) (e from : ℕ) {rule : Rule} → rule ≡ rule_of t e → (0 < from → rule ≡ Others) → paid_at t tab e from ≡ 0
paid-from t tab e from r f = elim (ℕ_discrete from 0) [
  | yes z ↦ rw z (paid-none t tab e)
  | no z ↦ paid-bare t tab e from (sym (f (omega (arith, z))) ∙ r)
]

-- What has a condition has two items at least, and the one at place 1 is entered.
module _ (s : List ℕ) (a : Accepted s) (tab : Tables) (e : ℕ) (l : e < expr_count s) where
  abbrev d : Tree
  d = decode s

  abbrev kind : ℕ
  kind = (expr_at (decode s) e).kind

  nodes-other : (kind ≡ 1 → ⊥) → (kind ≡ 2 → ⊥) → (kind ≡ 14 → ⊥) → nodes_at d tab e ≡ 0
  unfolding nodes_at listed sum
  nodes-other x y z = rw (condition-other d tab e (ne_eqb kind 1 x) (ne_eqb kind 2 y) (ne_eqb kind 14 z))

  -- by the kinds that have one
  by_parts : ((kind ≡ 1) ⊎ ((kind ≡ 2) ⊎ (kind ≡ 14)) → nodes_at d tab e ≡ 0) → nodes_at d tab e ≡ 0
  by_parts f = elim (ℕ_discrete kind 1) [
    | yes z ↦ f (inl z)
    | no x ↦ elim (ℕ_discrete kind 2) [
      | yes z ↦ f (inr (inl z))
      | no y ↦ elim (ℕ_discrete kind 14) [
        | yes z ↦ f (inr (inr z))
        | no z ↦ nodes-other x y z
      ]
    ]
  ]

  pub few-nodes : count_of s e ≤ 1 → nodes_at (decode s) tab e ≡ 0
  few-nodes h = by_parts λ z. absurd (omega (arith, has_part s a e l {kind = kind} refl z 1 (omega arith)))

  part-kind : (kind ≡ 1) ⊎ ((kind ≡ 2) ⊎ (kind ≡ 14)) → (n : ℕ) → (n ≡ 5) ⊎ (n ≡ 8) → kind ≡ n → ⊥
  part-kind (inl h) n (inl q) z = absurd (omega arith)
  part-kind (inl h) n (inr q) z = absurd (omega arith)
  part-kind (inr (inl h)) n (inl q) z = absurd (omega arith)
  part-kind (inr (inl h)) n (inr q) z = absurd (omega arith)
  part-kind (inr (inr h)) n (inl q) z = absurd (omega arith)
  part-kind (inr (inr h)) n (inr q) z = absurd (omega arith)

  part-entered : (kind ≡ 1) ⊎ ((kind ≡ 2) ⊎ (kind ≡ 14)) → enters_item (rule_of d e) (item_at d e 1) ≡ true
  unfolding enters_item is_none
  part-entered h =
      rw (
        rule_other d tab e (ne_eqb kind 5 (part-kind h 5 (inl refl))) (ne_eqb kind 8 (part-kind h 8 (inr refl))),
        enters-part (guarded d e) (item_at d e 1).role,
        ne_eqb (item_at d e 1).expression 16383 (λ z. absurd (omega (arith, z, part_in s a e l {kind = kind} refl h {k = 1} (omega arith) refl, a.sized.exprs-few))),
      )

  skipped_none : (k : ℕ) → enters_item (rule_of d e) (item_at d e k) ≡ false → counted_at d tab e k ≡ 0
  skipped_none k h = elim (ℕ_discrete k 1) [
    | yes z ↦
        let q : enters_item (rule_of d e) (item_at d e 1) ≡ false = rw z at h in
        rw z ((count_next d tab e).1 ∙ by_parts λ p. absurd (true≢false (part-entered p) q))
    | no z ↦ elim (ℕ_discrete k 0) [
      | yes y ↦ rw y (count-start d tab e).1
      | no y ↦ counted_late d tab e k y z
    ]
  ]

-- What is left to visit.
module _ (t : Tree) (tab : Tables) (e bound : ℕ) (way : List (ℕ × ℕ)) (rs : List Narrowing) where
  abbrev left : List (ℕ × Item) → Effect
  left = left_of t tab e bound way rs

  abbrev rule : Rule
  rule = rule_of t e

  left_skip : (k : ℕ) (i : Item) (is : List (ℕ × Item)) → enters_item rule i ≡ false → left ((k, i) ∷ is) ≡ left is
  unfolding left_of each step_at
  left_skip k i is h = rw h

  -- the step into an item
  abbrev step : ℕ → Item → Step
  step k i = record { expr = i.expression; item = k; binding = binding_of (binding_in rule bound i); opens = opens_at rule i.role; adds = adds_at t tab e k }

  abbrev way_of : ℕ → List (ℕ × ℕ)
  way_of k = way ++ (e, k) ∷ []

  left-item : (k : ℕ) (i : Item) (is : List (ℕ × Item)) → enters_item rule i ≡ true
      → left ((k, i) ∷ is) ≡ joined (doing t tab (visits_from t tab (step k i) (way_of k) (rs ++ adds_at t tab e k))) (left is)
  unfolding left_of each step_at
  left-item k i is h =
      rw h (doing-++ t tab (visits_from t tab (step k i) (way_of k) (rs ++ adds_at t tab e k)) (visits_below t tab e way rs (each (step_at t tab e bound) is)))

  -- .. that opens no binding
  closed_item : (k : ℕ) (i : Item) (ns : List Narrowing) → opens_at rule i.role ≡ false
      → visits_from t tab (step k i) (way_of k) ns ≡ visits_from t tab (step_to i.expression (binding_of (binding_in rule bound i))) (way_of k) ns
  unfolding visits_from visits
  closed_item k i ns h = rw h

  own-named : (i : Item) → opens_at rule i.role ≡ true → Own i → rule ≡ Bindings → binding_of (binding_in rule bound i) ≡ Some (binding_in rule bound i)
  unfolding binding_in
  own-named i h o r = rw h (o.named (rw (← r) h))

  opens_rule : (role : ℕ) → opens_at rule role ≡ true → rule ≡ Bindings
  opens_rule role h = opens-bindings rule role h

  own-adds : (k role : ℕ) → opens_at rule role ≡ true → adds_at t tab e k ≡ []
  unfolding adds_at listed each
  own-adds k role h = let z : rule ≡ Bindings = opens_rule role h in rw (rule_unguarded t tab e (λ q. guarded≢bindings (sym q ∙ z)))

  -- .. that does
  open_item : (run : RunToEnd t tab) (k : ℕ) (i : Item) → Own i → opens_at rule i.role ≡ true
      → doing t tab (visits_from t tab (step k i) (way_of k) (rs ++ adds_at t tab e k))
      ≡ joined (opening (binding_in rule bound i) i.expression rs)
      (doing t tab (visits_from t tab (step_to i.expression (binding_of (binding_in rule bound i))) (way_of k) (rs ++ adds_at t tab e k)))
  open_item run k i o h =
      let b = own-named i h o (opens_rule i.role h) in
      rw (own-adds k i.role h, append-nil rs, b, h) (visits_open t tab run i.expression (binding_in rule bound i) (way_of k) rs k [])

-- All from the first item on is what is below e, and the nodes of its condition.
pub from_start : (s : List ℕ) → Accepted s → (tab : Tables) (e : ℕ) → e < expr_count s → (bound : ℕ) (way : List (ℕ × ℕ)) (rs : List Narrowing)
    → from_item (decode s) tab e bound way rs 0 ≡ joined (spent (nodes_at (decode s) tab e)) (doing (decode s) tab (visits_below (decode s) tab e way rs (steps (decode s) tab e (binding_of bound))))
unfolding left_of from_item
from_start s a tab e l bound way rs = rw ((count-start (decode s) tab e).0, steps_all s a tab e l bound)

-- The loop.
module _ {s resolutions bindings : List ℕ} {e bound force : ℕ} (start : ℕ) where
  pub going_start : (x : Sheet) → start ≤ length (expr_at (decode s) e).items → 0 < x.state.left → force + paid_at (decode s) (given resolutions bindings) e start + x.state.left ≤ 2 ^ 32
      → Going s resolutions bindings e bound force start x x start
  going_start x b o f =
      record {
        below = b;
        still = o;
        few = f;
        went = went-same force x;
        rest = λ way rs k z g r. r;
      }

-- the rule of a turn does what that of the owner does
module _ (t : Tree) (tab : Tables) (e : ℕ) {rule : Rule} {place : ℕ} where
  same-enters : Ruled t tab e rule place → (i : Item) → enters_item rule i ≡ enters_item (rule_of t e) i
  unfolding enters_item role_enters
  same-enters (inl r) i = rw r
  same-enters (inr r) i = rw (r.0, r.1)

  same-opens : Ruled t tab e rule place → (role : ℕ) → opens_at rule role ≡ opens_at (rule_of t e) role
  unfolding opens_at
  same-opens (inl r) role = rw r
  same-opens (inr r) role = rw (r.0, r.1)

  same-binding : Ruled t tab e rule place → (bound : ℕ) (i : Item) → binding_in rule bound i ≡ binding_in (rule_of t e) bound i
  unfolding binding_in opens_at bare_at
  same-binding (inl r) bound i = rw r
  same-binding (inr r) bound i = rw (r.0, r.1)

  pub ruled_next : Ruled t tab e rule place → Ruled t tab e rule (place + 1)
  ruled_next (inl r) = inl r
  ruled_next (inr r) = inr (r.0, r.1, omega (arith, r.2), r.3)

  pub ruled_past : Ruled t tab e rule place → {r : ℕ} → place < r → Ruled t tab e rule r
  ruled_past (inl r) h = inl r
  ruled_past (inr r) h = inr (r.0, r.1, omega (arith, r.2, h), r.3)

  pub ruled_behind : Ruled t tab e rule place → {elses : ℕ} {after : Rule} → Behind rule place elses after → (place ≡ 1 → elses ≡ 0 → adds_at t tab e 2 ≡ []) → Ruled t tab e after (place + 1)
  ruled_behind u (inl q) f = subst (λ n. Ruled t tab e n (place + 1)) (sym q) (ruled_next u)
  ruled_behind (inl r) (inr q) f = inr (q.0, sym r ∙ q.1, omega (arith, q.2), f q.2 q.3)
  ruled_behind (inr r) (inr q) f = absurd (others≢guarded (sym r.0 ∙ q.1))

module _ {s resolutions bindings : List ℕ} {e bound force start : ℕ} {x here : Sheet} {k : ℕ} (g : Going s resolutions bindings e bound force start x here k) where
  abbrev t' : Tree
  t' = decode s

  abbrev tab' : Tables
  tab' = given resolutions bindings

  abbrev items : List (ℕ × Item)
  items = numbered 0 (expr_at (decode s) e).items

  pub going_done : Accepted s → e < expr_count s → length (expr_at (decode s) e).items ≤ k → Rest s resolutions bindings e bound force start x here
  unfolding left_of from_item each doing
  going_done a l h =
      record {
        went = g.went;
        ran = λ way rs q.
            let z : drop k items ≡ [] = drop_of_length-le items {i = k} (omega (arith, numbered-many 0 (expr_at (decode s) e).items)) in
            g.rest way rs q here (went-same 0 here) (rw (z, all-counted) ran-nothing);
      }
    where
      none_left : k ≤ 1 → nodes_at (decode s) (given resolutions bindings) e ≡ 0
      none_left m = few-nodes s a (given resolutions bindings) e l (omega (arith, tree-items s e l))

      all-counted : owed (decode s) (given resolutions bindings) e k ≡ 0
      all-counted = elim (ℕ_discrete k 0) [
        | yes z ↦ rw z ((count-start (decode s) (given resolutions bindings) e).0 ∙ none_left (omega arith))
        | no z ↦ elim (ℕ_discrete k 1) [
          | yes y ↦ rw y ((count_next (decode s) (given resolutions bindings) e).0 ∙ none_left (omega arith))
          | no y ↦ owed_late (decode s) (given resolutions bindings) e k z y
        ]
      ]

  -- the item at k
  module _ (h : k < length (expr_at (decode s) e).items) {i : Item} (q : item_at (decode s) e k ≡ i) where
    next : drop k items ≡ (k, i) ∷ drop (k + 1) items
    unfolding item_at
    next =
        drop-cons items k (0, no_item) (omega (arith, numbered-many 0 (expr_at (decode s) e).items))
        ∙ rw (add-one, numbered_get 0 k (expr_at (decode s) e).items no_item h, ← q) (ap (λ n. (n, item_at (decode s) e k) ∷ drop (suc k) items) (omega arith))

    module _ {rule : Rule} (u : Ruled (decode s) (given resolutions bindings) e rule k) {b : Bool} (v : b ≡ enters_item rule i) where
      enters_is : {c : Bool} → b ≡ c → enters_item (rule_of (decode s) e) i ≡ c
      enters_is f = sym (same-enters (decode s) (given resolutions bindings) e u i) ∙ sym v ∙ f

      pub going_skip : Accepted s → e < expr_count s → b ≡ false → Going s resolutions bindings e bound force start x here (k + 1)
      unfolding from_item
      going_skip a l f =
          let c = counts (decode s) (given resolutions bindings) e k in
          let z : counted_at (decode s) (given resolutions bindings) e k ≡ 0 = skipped_none s a (given resolutions bindings) e l k (rw q (enters_is f)) in
          let y : owed (decode s) (given resolutions bindings) e k ≡ owed (decode s) (given resolutions bindings) e (k + 1) = omega (arith, c.owes, z) in
          record {
            below = omega arith;
            still = g.still;
            few = omega (arith, g.few, c.pays, z);
            went = g.went;
            rest = λ way rs p z w n. g.rest way rs p z w (rw (y, next, left_skip (decode s) (given resolutions bindings) e bound way rs k i (drop (k + 1) items) (enters_is f)) n);
          }

      -- an item that is entered: its binding is opened, what its place adds is added, and it is visited
      module _ (f : b ≡ true) {role inner child : ℕ} (role-is : role ≡ i.role) (inner-is : inner ≡ binding_in rule bound i) (child-is : child ≡ i.expression)
          {state₁ : State} {narrowings₁ exprs₁ : List ℕ} (o : Bound rule role inner child force here.working here.state here.narrowings here.exprs state₁ narrowings₁ exprs₁)
          (long : length narrowings₁ ≡ length here.narrowings) {state₂ : State} {w₂ : List ℕ} {inside : ℕ}
          (n : Inside (decode s) (given resolutions bindings) e k force state₁ here.working state₂ w₂ inside) (long₂ : length w₂ ≡ length here.working) (small : force < 2 ^ 32) where
        abbrev opened-sheet : Sheet
        opened-sheet = sheet state₁ here.edges narrowings₁ exprs₁ here.working

        abbrev counted-sheet : Sheet
        counted-sheet = sheet state₂ here.edges narrowings₁ exprs₁ w₂

        -- what the place adds
        inside-went : Went force opened-sheet counted-sheet
        inside-went =
            record {
              fewer = omega (arith, n.left);
              edges = omega (arith, n.left, n.edges);
              paid = omega (arith, n.left, n.recorded);
              recorded = omega (arith, n.recorded);
              most = omega (arith, n.most);
              long-narrowings = refl;
              long-working = long₂;
              kept = λ z j m. kept-fed (n.fed z) j m;
            }

        inside-ran : Ran (spent (counted_at (decode s) (given resolutions bindings) e k)) opened-sheet counted-sheet
        unfolding entered recorded_numbers each stored
        inside-ran =
            record {
              count = n.left;
              edges = λ z. rw n.edges (fed-none _ _);
              most = λ z. n.most ∙ sym (max-zero state₁.most);
              recorded = λ z. omega (arith, n.recorded);
              exprs = λ z. refl;
              narrowings = λ z r. refl;
            }

        -- from what is before the binding to what is behind it
        from_here : {y : Sheet} → Went force opened-sheet y → credit y.state + force ≤ credit opened-sheet.state → Went force here y
        from_here w m =
            let q = passed o in
            record {
              fewer = omega (arith, w.fewer, q.left);
              edges = omega (arith, w.edges, q.left, q.edges);
              paid = omega (arith, m, q.left, q.more);
              recorded = omega (arith, w.recorded, q.less);
              most = omega (arith, w.most, q.most);
              long-narrowings = w.long-narrowings ∙ long;
              long-working = w.long-working;
              kept = w.kept;
            }

        -- the nodes exceed what is left
        pub going-stop : state₂.left ≡ 0 → Rest s resolutions bindings e bound force start x counted-sheet
        unfolding from_item
        going-stop z =
            let q = passed o in
            let w = from_here inside-went (omega (arith, z, n.recorded, q.left, g.still, small)) in
            record {
              went = went_then (omega arith) g.went w;
              ran = λ way rs p. g.rest way rs p counted-sheet w (ran_over _ z (omega (arith, n.left, q.left, (counts (decode s) (given resolutions bindings) e k).owes)));
            }

        -- it is visited
        module _ (on : 0 < state₂.left) {y : Sheet} (p : Traversed s resolutions bindings child inner inside counted-sheet y) (most : force ≤ here.state.most) (own : Own i) (a : Accepted s) where
          on_went : Went force opened-sheet y
          on_went = went_then (omega (arith, (n.fed on).number)) inside-went p.went

          item-went : Went force here y
          item-went = from_here on_went (omega (arith, p.paid, inside-went.paid, small))

          abbrev rule' : Rule
          rule' = rule_of (decode s) e

          inner_there : inner ≡ binding_in rule' bound i
          inner_there = inner-is ∙ same-binding (decode s) (given resolutions bindings) e u bound i

          opens_there : opens_at rule role ≡ opens_at rule' i.role
          opens_there = ap (opens_at rule) role-is ∙ same-opens (decode s) (given resolutions bindings) e u i.role

          module _ (way : List (ℕ × ℕ)) (rs : List Narrowing) (stands : Stands rs force here.working) where
            abbrev way_in : List (ℕ × ℕ)
            way_in = way ++ (e, k) ∷ []

            abbrev in_force : List Narrowing
            in_force = rs ++ adds_at (decode s) (given resolutions bindings) e k

            abbrev counted : ℕ
            counted = counted_at (decode s) (given resolutions bindings) e k

            abbrev visited : Effect
            visited = doing (decode s) (given resolutions bindings) (visits_from (decode s) (given resolutions bindings) (step_to i.expression (binding_of (binding_in rule' bound i))) way_in in_force)

            abbrev entering : Effect
            entering = doing (decode s) (given resolutions bindings) (visits_from (decode s) (given resolutions bindings) (step (decode s) (given resolutions bindings) e bound way rs k i) way_in in_force)

            -- the visits of the item
            visits-ran : Ran (joined (spent counted) visited) opened-sheet y
            visits-ran =
                ran_then _ _ p.went inside-ran
                (rw (← inner_there, ← child-is) (p.ran way_in in_force (stands-more stands (adds_at (decode s) (given resolutions bindings) e k) (n.fed on))))

            item-ran : Ran (joined (spent counted) entering) here y
            item-ran = go (opens_at rule role) refl
              where
                go : (c : Bool) → opens_at rule role ≡ c
                    → Ran (joined (spent counted) entering) here y
                go true c =
                    rw (open_item (decode s) (given resolutions bindings) e bound way rs (ordered-runs (decode s) (given resolutions bindings) (ordered s a)) k i own (sym opens_there ∙ c), spent_later counted)
                    (ran_then _ _ on_went (subst (λ m. Ran (opening m i.expression rs) here opened-sheet) inner_there (subst (λ m. Ran (opening inner m rs) here opened-sheet) child-is (open_ran o here.edges rs c stands most long))) visits-ran)
                go false c =
                    rw (closed_item (decode s) (given resolutions bindings) e bound way rs k i in_force (sym opens_there ∙ c))
                    (subst (λ m. Ran (joined (spent counted) visited) (sheet m here.edges here.narrowings here.exprs here.working) y) (o.same c).0
                    (subst (λ m. Ran (joined (spent counted) visited) (sheet state₁ here.edges m here.exprs here.working) y) (o.same c).1
                    (subst (λ m. Ran (joined (spent counted) visited) (sheet state₁ here.edges narrowings₁ m here.working) y) (o.same c).2 visits-ran)))

            next-item : from_item (decode s) (given resolutions bindings) e bound way rs k ≡ joined (joined (spent counted) entering) (from_item (decode s) (given resolutions bindings) e bound way rs (k + 1))
            unfolding from_item
            next-item =
                rw ((counts (decode s) (given resolutions bindings) e k).owes, next, left-item (decode s) (given resolutions bindings) e bound way rs k i (drop (k + 1) items) (enters_is f))
                (spent-parts counted (owed (decode s) (given resolutions bindings) e (k + 1)) entering (left_of (decode s) (given resolutions bindings) e bound way rs (drop (k + 1) items)))

          standing : {rs : List Narrowing} → Stands rs force x.working → Stands rs force here.working
          standing q' = stands-kept q' (g.went.kept g.still) g.went.long-working

          pub going-over : y.state.left ≡ 0 → Rest s resolutions bindings e bound force start x y
          going-over z =
              record {
                went = went_then (omega arith) g.went item-went;
                ran = λ way rs q'. g.rest way rs q' y item-went (rw (next-item way rs (standing q')) (ran-stop _ _ (item-ran way rs (standing q')) z));
              }

          pub going_more : 0 < y.state.left → Going s resolutions bindings e bound force start x y (k + 1)
          going_more z =
              record {
                below = omega arith;
                still = z;
                few = omega (arith, g.few, (counts (decode s) (given resolutions bindings) e k).pays, n.left, (passed o).left, on, p.went.fewer);
                went = went_then (omega arith) g.went item-went;
                rest = λ way rs q' z₁ w r₁.
                    g.rest way rs q' z₁ (went_then (omega arith) (went-any item-went) (went-any w))
                    (rw (next-item way rs (standing q')) (ran_then _ _ w (item-ran way rs (standing q')) r₁));
              }

          pub going-visited : (y.state.left ≡ 0 → Rest s resolutions bindings e bound force start x y) × (0 < y.state.left → Going s resolutions bindings e bound force start x y (k + 1))
          going-visited = (going-over, going_more)

-- What the calls in the loop ask.
module _ {s resolutions bindings : List ℕ} {e bound force start : ℕ} {state : State} {edges ns xs w : List ℕ} {here : Sheet} {k : ℕ} (ready : Ready s resolutions bindings e force state) (opened : Opened force state)
    (g : Going s resolutions bindings e bound force start (sheet state edges ns xs w) here k) where
  pub force_small : force < 2 ^ 32
  force_small = omega (arith, ready.force_few, ready.going)

  pub force_there : force ≤ here.state.most
  force_there = omega (arith, opened.force_most, g.went.most)

  pub recorded-fits : here.state.recorded + force < 2 ^ 64
  recorded-fits = omega (arith, opened.credit-few, g.went.paid, g.still, g.went.fewer, ready.force_few)

  module _ {rule : Rule} {role inner child : ℕ} {w₁ : List ℕ} {state₁ : State} {narrowings₁ exprs₁ narrowings₀ exprs₀ : List ℕ} (o : Bound rule role inner child force w₁ here.state narrowings₀ exprs₀ state₁ narrowings₁ exprs₁) where
    pub ready_inside : Ready s resolutions bindings e force state₁
    ready_inside =
        let q = passed o in
        record {
          accepted = ready.accepted;
          resolved = ready.resolved;
          bound = ready.bound;
          inside = ready.inside;
          going = omega (arith, q.left, g.still);
          force_few = omega (arith, q.left, ready.force_few, g.went.fewer);
          edges_few = omega (arith, q.left, q.edges, ready.edges_few, g.went.edges);
          credit-few = omega (arith, q.left, q.more, opened.credit-few, g.went.paid, force_small);
        }

    pub nodes-small : 1 < k → force + nodes_at (decode s) (given resolutions bindings) e + state₁.left ≤ 2 ^ 32
    nodes-small h = omega (arith, g.few, (passed o).left, paid_late (decode s) (given resolutions bindings) e k (λ z. absurd (omega arith)) (λ z. absurd (omega arith)))

    pub ready_child : {state₂ : State} {w₂ : List ℕ} {inside : ℕ} → Inside (decode s) (given resolutions bindings) e k force state₁ w₁ state₂ w₂ inside → 0 < state₂.left → child < e
        → Ready s resolutions bindings child inside state₂
    ready_child n on m =
        let q = ready_inside in
        record {
          accepted = q.accepted;
          resolved = q.resolved;
          bound = q.bound;
          inside = omega (arith, q.inside, m);
          going = on;
          force_few = n.few on;
          edges_few = omega (arith, q.edges_few, n.left, n.edges);
          credit-few = omega (arith, q.credit-few, n.left, n.recorded);
        }

-- Items that are skipped: what is done from one on is done from another on, if none between them leads to a visit.
pub going_past : {s resolutions bindings : List ℕ} {e bound force start : ℕ} {x here : Sheet} {k r : ℕ} → Accepted s → e < expr_count s → Skipped s e k r
    → Going s resolutions bindings e bound force start x here (k + 1) → Going s resolutions bindings e bound force start x here r
going_past {s} {resolutions} {bindings} {e} {bound} {force} {start} {x} {here} {k} {r} a l p g = go (r - (k + 1)) (k + 1) (omega arith) (omega (arith, p.ahead)) g
  where
    At : ℕ → Type 0
    At = Going s resolutions bindings e bound force start x here

    go : (d j : ℕ) → k < j → r ≡ j + d → At j → At r
    go zero j m q f = subst At (omega (arith, q)) f
    go (suc d) j m q f = go d (j + 1) (omega (arith, m)) (omega (arith, q)) (going_skip f (omega (arith, p.inside, q)) refl (inl refl) refl a l (p.none j m (omega (arith, q))))

-- Where the items of an expression start.
pub items_there : (s : List ℕ) (e : ℕ) {place first : ℕ} → place ≡ items_place s → first ≡ first_of s e → place + 4 * first ≡ item_place s (first_of s e + 0)
items_there s e p f = omega (arith, p, f)

pub items-inside : (s : List ℕ) → Accepted s → (e : ℕ) → e < expr_count s → {place first : ℕ} → place ≡ items_place s → first ≡ first_of s e → place + 4 * first ≤ length s
items-inside s a e l p f = omega (arith, p, f, a.sized.size, a.runs e l)

-- The item that a turn looks at.
module _ (s : List ℕ) (a : Accepted s) (e : ℕ) (l : e < expr_count s) {items count : ℕ} (k : ℕ) (p : items ≡ item_place s (first_of s e + 0)) (n : count ≡ length (expr_at (decode s) e).items) (h : k < count) where
  pub item-few : k < count_of s e
  item-few = omega (arith, n, tree-items s e l)

  pub item_there : item_at (decode s) e k ≡ item_here s (items + 4 * k)
  item_there = item_here_lem s a e l k item-few (omega (arith, p))

  pub item_in : items + 4 * k + 4 ≤ length s
  item_in = (an_item s a e l k item-few {at = items + 4 * k} (omega (arith, p))).inside

  pub item-own : Own (item_here s (items + 4 * k))
  item-own = subst Own item_there (own_at s a (given [] []) e l k (omega (arith, n, h)))

  -- the binding inside it is a name or none, and what is entered is below its owner
  pub inner-small : (rule : Rule) (bound : ℕ) {inner : ℕ} → inner ≡ binding_in rule bound (item_here s (items + 4 * k)) → bound < 2 ^ 14 → inner < 2 ^ 14
  unfolding binding_in
  inner-small rule bound q m = rw q (go (opens_at rule role) (bare_at rule role))
    where
      role : ℕ
      role = (item_here s (items + 4 * k)).role

      name : ℕ
      name = (item_here s (items + 4 * k)).name

      small : name < 2 ^ 14
      small = ⊎_elim (λ z. omega (arith, z, a.sized.names-few)) (λ z. omega (arith, z)) (subst (λ i. (i.name < name_count s) ⊎ (i.name ≡ 16383)) item_there (item-named s a e l k item-few))

      go : (c d : Bool) → cond c name (cond d 16383 bound) < 2 ^ 14
      go true d = small
      go false true = omega arith
      go false false = m

  pub child-below : (rule : Rule) {child : ℕ} {b : Bool} → b ≡ enters_item rule (item_here s (items + 4 * k)) → b ≡ true → child ≡ (item_here s (items + 4 * k)).expression → child < e
  unfolding enters_item is_none
  child-below rule v f q =
      rw q (⊎_elim (λ z. z) (λ z. absurd (true≢false (and_left _ (role_enters rule (item_here s (items + 4 * k)).role) (sym v ∙ f)) (ap not (eq-eqb _ 16383 z))))
      (subst (λ i. (i.expression < e) ⊎ (i.expression ≡ 16383)) item_there (item-below s a e l k item-few)))
