-- The condition of an expression, in the terms of the code.
use Rattle.std.specs.Prelude.{Option, Some, None}
use mathlib.Core.Path.{◌≡◌, refl, ap, sym, ◌∙◌}
use mathlib.Core.Logic.{◌⊎◌, inl, inr}
use mathlib.Core.Bool.{Bool, true, false}
use mathlib.Core.List.{List, [], ◌∷◌, map}
use Prim.Native.Nat.{ℕ, ◌+◌, ◌-◌, ◌^◌, ◌≤◌, ◌<◌}
use native.Mathlib.Omega.{arith}
use native.Mathlib.Decide.{ℕ_discrete}
use lib.ListN.{length}
use borrow.Author.Tests.{ne_eqb}
use Rattle.semantics.specs.Base.{pick, sum, listed, only, or_else, ◌>>=◌}
use Rattle.semantics.specs.Tree.{Tree, is_kind, apply, reference, expr_at, item_at, part}
use Rattle.semantics.specs.Words.{ConditionalFn, OptionalString, OptionalAttrs, Optional, MkIf}
use Rattle.semantics.specs.Resolution.{Tables}
use Rattle.semantics.specs.Narrow.{Narrowing, nodes, global_name, builtin_set, another_set, chain_key, analyze, conditional_fn, call_condition}
use Rattle.semantics.specs.Walk.{condition_at}
use Rattle.semantics.proofs.BaseLaws.{clash, true≢false, pick_later, pick-none, each-one}
use Rattle.image_fields.specs.Image.{expr_count, decode}
use Rattle.image.specs.Inside.Accepted.{Accepted}
use Rattle.narrow_texts.specs.declared.words.ConditionalFn.{ConditionalFn as Recognised}
use Rattle.given.specs.Given.{given}
use Rattle.given.specs.Inside.Resolved.{resolved}
use Rattle.narrow_texts.specs.Inside.Numbers.{Finds}
use Rattle.narrow_texts.specs.Inside.Rows.{conditional_of}
use Rattle.narrow_leaf.specs.Inside.Told.{record_number}
use Rattle.narrow_run.specs.declared.Progress.{Progress}
use Rattle.narrow_run.specs.declared.Takes.{Takes}
use Rattle.narrow_run.specs.declared.Takes.TheVariants.{ForTrue, ForFalse, Neither}
use Rattle.narrow_run.specs.Inside.Run.{sheet, outcome, takes, codes, Ran}
use Rattle.narrow_run.specs.Inside.Run.{Ready as NodeReady}
use Rattle.narrow_texts.proofs.NumberLaws.{below, nothing-found, just_found, found_none, found_some, found_as}
use Rattle.narrow_texts.proofs.ChainLaws.{no-chain}
use Rattle.narrow_run.proofs.RunLaws.{fed-none}
use Rattle.walk_visit.specs.declared.State.{State}
use Rattle.walk_visit.specs.declared.Rule.{Rule}
use Rattle.walk_visit.specs.declared.Rule.TheVariants.{Guarded}
use Rattle.walk_visit.specs.Inside.Steps.{callee, guarded, guard_rule, rule_of, nodes_at, counted_at, outcome_at, adds_at}
use Rattle.walk_guard.specs.Inside.Added.{item_of, beside, Ready, Spends, Ruled, Inside}
use Rattle.walk_visit.proofs.ItemLaws.{part_in, rule_call}
use Rattle.walk_guard.proofs.AddsLaws.{adds_none, adds_late, adds_other}

-- `call_condition`
module _ (s : List ℕ) (tab : Tables) (a : Accepted s) (f : ℕ) (l : f < expr_count s) {kind : ℕ} (q : kind ≡ (expr_at (decode s) f).kind) where
  pub no_call : (kind ≡ 1 → ⊥) → Finds (expr_count s) (call_condition (decode s) tab f) None
  unfolding call_condition apply only is_kind ◌>>=◌
  no_call h = nothing-found (rw (← q, ne_eqb kind 1 h))

  module _ (h : kind ≡ 1) {callee : ℕ} (p : callee ≡ (item_at (decode s) f 0).expression) {x : Option Recognised} (r : x ≡ conditional_of (conditional_fn (decode s) tab callee)) where
    called : call_condition (decode s) tab f ≡ (conditional_fn (decode s) tab callee >>= λ c. Some (part (decode s) f 1))
    unfolding call_condition apply only is_kind ◌>>=◌ part
    called = rw (← q, h, p)

    pub not-recognised : x ≡ None → Finds (expr_count s) (call_condition (decode s) tab f) None
    unfolding ◌>>=◌ conditional_of
    not-recognised z = nothing-found (called ∙ go (conditional_fn (decode s) tab callee) (sym r ∙ z))
      where
        go : (o : Option ConditionalFn) → conditional_of o ≡ None → (o >>= λ c. Some (part (decode s) f 1)) ≡ None
        go None e = refl
        go (Some OptionalString) e = absurd (clash (sym e))
        go (Some OptionalAttrs) e = absurd (clash (sym e))
        go (Some Optional) e = absurd (clash (sym e))
        go (Some MkIf) e = absurd (clash (sym e))

    pub is-recognised : {y : Recognised} → x ≡ Some y → {c : ℕ} → c ≡ (item_at (decode s) f 1).expression → Finds (expr_count s) (call_condition (decode s) tab f) (Some c)
    unfolding ◌>>=◌ part conditional_of
    is-recognised {y} z {c} w = just_found (called ∙ go (conditional_fn (decode s) tab callee) (sym r ∙ z)) (part_in s a f l q (inl h) (omega arith) w)
      where
        go : (o : Option ConditionalFn) → conditional_of o ≡ Some y → (o >>= λ c. Some (item_at (decode s) f 1).expression) ≡ Some c
        go None e = absurd (clash e)
        go (Some d) e = ap Some (sym w)

-- only what is guarded has a condition
module _ (t : Tree) (tab : Tables) (e : ℕ) where
  abbrev k : ℕ
  k = (expr_at t e).kind

  abbrev f : ℕ
  f = (item_at t e 0).expression

  abbrev function : ℕ
  function = (expr_at t f).kind

  three_if : (k ≡ 2) ⊎ (k ≡ 14) → rule_of t e ≡ Guarded
  unfolding rule_of guarded guard_rule pick
  three_if (inl h) = rw h
  three_if (inr h) = rw h

  none-called : k ≡ 1 → (function ≡ 1 → ⊥) → condition_at t tab e ≡ None
  unfolding condition_at pick call_condition apply only is_kind ◌>>=◌ part
  none-called h z = rw (h, ne_eqb function 1 z)

  -- what has no name is not recognised
  nameless : (g : ℕ) → ((expr_at t g).kind ≡ 10 → ⊥) → ((expr_at t g).kind ≡ 11 → ⊥) → conditional_fn t tab g ≡ None
  unfolding conditional_fn reference only is_kind or_else ◌>>=◌
  nameless g x y = rw (no-chain t tab g refl y, ne_eqb (expr_at t g).kind 10 x)

  none-recognised : k ≡ 1 → function ≡ 1 → conditional_fn t tab (item_at t f 0).expression ≡ None → condition_at t tab e ≡ None
  unfolding condition_at pick call_condition apply only is_kind ◌>>=◌ part
  none-recognised h z n = rw (h, z, n)

  none_other : (k ≡ 1 → ⊥) → (k ≡ 2 → ⊥) → (k ≡ 14 → ⊥) → condition_at t tab e ≡ None
  unfolding condition_at
  none_other x y z = pick_later k _ _ None (ne_eqb k 1 x) ∙ pick_later k _ _ None (ne_eqb k 2 y) ∙ pick_later k _ _ None (ne_eqb k 14 z) ∙ pick-none k None

  pub rule_unguarded : (rule_of t e ≡ Guarded → ⊥) → condition_at t tab e ≡ None
  rule_unguarded h = elim (ℕ_discrete k 1) [
    | yes x ↦ elim (ℕ_discrete function 1) [
      | yes y ↦ none-recognised x y (nameless (item_at t f 0).expression (λ z. named x y (inl z)) (λ z. named x y (inr z)))
      | no y ↦ none-called x y
    ]
    | no x ↦ none_other x (λ z. h (three_if (inl z))) (λ z. h (three_if (inr z)))
  ]
    where
      named : k ≡ 1 → function ≡ 1 → (callee t f ≡ 10) ⊎ (callee t f ≡ 11) → ⊥
      named x y z = h (sym (rule_call t e {kind = k} refl x {f = f} refl refl y {c = (item_at t f 0).expression} refl refl z))

-- `condition_at`
module _ (s : List ℕ) (tab : Tables) (a : Accepted s) (e : ℕ) (l : e < expr_count s) {kind : ℕ} (q : kind ≡ (expr_at (decode s) e).kind) where
  at_part : (kind ≡ 2) ⊎ (kind ≡ 14) → {c : ℕ} → c ≡ (item_at (decode s) e 0).expression → condition_at (decode s) tab e ≡ Some c
  unfolding condition_at pick part
  at_part (inl h) w = rw (← q, h, w)
  at_part (inr h) w = rw (← q, h, w)

  pub condition-part : (kind ≡ 2) ⊎ (kind ≡ 14) → {c : ℕ} → c ≡ (item_at (decode s) e 0).expression → Finds (expr_count s) (condition_at (decode s) tab e) (Some c)
  condition-part h {c} w = just_found (at_part h w) (part_in s a e l q (inr h) (omega arith) w)

  pub condition-call : kind ≡ 1 → {f : ℕ} {c : Option ℕ} → f ≡ (item_at (decode s) e 0).expression → Finds (expr_count s) (call_condition (decode s) tab f) c → Finds (expr_count s) (condition_at (decode s) tab e) c
  unfolding condition_at pick part
  condition-call h p f = found_as (rw (← q, h, ← p)) f

  pub condition-none : (kind ≡ 1 → ⊥) → (kind ≡ 2 → ⊥) → (kind ≡ 14 → ⊥) → Finds (expr_count s) (condition_at (decode s) tab e) None
  condition-none x y z = nothing-found (none_other (decode s) tab e (λ h. x (q ∙ h)) (λ h. y (q ∙ h)) (λ h. z (q ∙ h)))

-- the index is not asked for it
condition-any : (t : Tree) (table bindings : List ℕ) (e : ℕ) → condition_at t (given table bindings) e ≡ condition_at t (resolved table) e
unfolding condition_at call_condition conditional_fn chain_key another_set builtin_set global_name
condition-any t table bindings e = refl

-- a list of no records
empty : (l : List ℕ) → length l ≡ 0 → l ≡ []
empty [] h = refl
empty (x ∷ l) h = absurd (omega arith)

none_mapped : (rs : List Narrowing) → map record_number rs ≡ [] → rs ≡ []
none_mapped [] h = refl
none_mapped (r ∷ rs) h = absurd (omega (arith, ap length h))

-- `analyzed`
module _ {s resolutions bindings : List ℕ} {e force : ℕ} {state : State} (ready : Ready s resolutions bindings e force state) (place : ℕ) where
  abbrev t : Tree
  t = decode s

  abbrev tab : Tables
  tab = given resolutions bindings

  nodes-none : condition_at t tab e ≡ None → nodes_at t tab e ≡ 0
  unfolding nodes_at sum listed
  nodes-none h = rw h

  nodes-one : {c : ℕ} → condition_at t tab e ≡ Some c → nodes_at t tab e ≡ nodes t c
  unfolding nodes_at sum listed
  nodes-one {c} h = rw h (omega arith)

  -- the nodes that are counted at this place
  counted-first : place ≡ 1 → counted_at t tab e place ≡ nodes_at t tab e
  unfolding counted_at pick
  counted-first h = rw h

  counted-other : (place ≡ 1 → ⊥) → counted_at t tab e place ≡ 0
  unfolding counted_at
  counted-other h = pick_later place _ _ 0 (ne_eqb place 1 h) ∙ pick-none place 0

  counted_none : condition_at t tab e ≡ None → counted_at t tab e place ≡ 0
  counted_none h = elim (ℕ_discrete place 1) [
    | yes z ↦ counted-first z ∙ nodes-none h
    | no z ↦ counted-other z
  ]

  -- the list that is taken, as numbers
  adds-codes : (k : ℕ) {c : ℕ} → condition_at t tab e ≡ Some c → map record_number (adds_at t tab e k) ≡ takes (outcome_at k) (codes t tab c)
  unfolding adds_at listed codes takes
  adds-codes k {c} h = rw h (ap (map record_number) (each-one (λ d. takes (outcome_at k) (λ b. analyze t tab b d)) c) ∙ go (outcome_at k))
    where
      go : (o : Option Bool) → map record_number (takes o (λ b. analyze t tab b c)) ≡ takes o (λ b. map record_number (analyze t tab b c))
      go None = refl
      go (Some b) = refl

  -- nothing is added, and nothing counted
  unchanged : counted_at t tab e place ≡ 0 → adds_at t tab e place ≡ [] → (place ≡ 1 → adds_at t tab e 2 ≡ []) → (w : List ℕ) → Inside t tab e place force state w state w force
  unchanged z h g w =
      record {
        left = omega (arith, z);
        edges = refl;
        recorded = refl;
        most = refl;
        few = λ o. ready.force_few;
        fed = λ o. rw h (fed-none force w);
        elses = λ p o q. g p;
      }

  -- .. where no condition is analysed
  unasked : condition_at t tab e ≡ None → (w : List ℕ) → Inside t tab e place force state w state w force
  unasked z = unchanged (counted_none z) (adds_none t tab e place z) (λ p. adds_none t tab e 2 z)

  pub nothing_analyzed : {c : Option ℕ} → Finds (expr_count s) (condition_at t (resolved resolutions) e) c → c ≡ None → (w : List ℕ) → Inside t tab e place force state w state w force
  nothing_analyzed f h = unasked (condition-any t resolutions bindings e ∙ found_none f h)

  module _ {at : Option ℕ} (f : Finds (expr_count s) (condition_at t (resolved resolutions) e) at) {c : ℕ} (h : at ≡ Some c) {whole : ℕ} (p : Spends t tab e place whole force state) where
    there : condition_at t tab e ≡ Some c
    there = condition-any t resolutions bindings e ∙ found_some f h

    pub whole_enough : force ≤ whole
    whole_enough = elim (ℕ_discrete place 1) [
      | yes z ↦ omega (arith, p.counted z)
      | no z ↦ omega (arith, (p.free z).0, (p.free z).1)
    ]

    -- what the analysis asks
    pub node_ready : NodeReady s resolutions bindings c (record { left = whole - force; thens = force; elses = 0 })
    node_ready =
        let k : (0 < whole - force) × (force + (whole - force) ≤ 2 ^ 32) = elim (ℕ_discrete place 1) [
          | yes z ↦ (omega (arith, p.counted z, ready.going), omega (arith, p.counted z, ready.force_few))
          | no z ↦ (omega (arith, (p.free z).0, (p.free z).1, ready.going), omega (arith, (p.free z).0, (p.free z).1))
        ] in
        record {
          accepted = ready.accepted;
          resolved = ready.resolved;
          bound = ready.bound;
          inside = below f.inside h;
          going = k.0;
          thens-few = k.1;
          elses-few = omega (arith, k.1);
        }

    module _ {taken other : Option Bool} (u : taken ≡ outcome_at place) (v : place ≡ 1 → other ≡ outcome_at 2) {w d w' d' : List ℕ} {end : Progress}
        (ran : Ran (nodes t c) (takes taken (codes t tab c)) (takes other (codes t tab c)) (sheet (record { left = whole - force; thens = force; elses = 0 }) w d) (sheet end w' d')) where
      -- what the list for false has
      else_none : place ≡ 1 → 0 < end.left → end.elses ≡ 0 → adds_at t tab e 2 ≡ []
      else_none z o q =
          none_mapped (adds_at t tab e 2) (adds-codes 2 there ∙ empty _ (omega (arith, q, (rw (v z) at (ran.elses o)).number)))

      pub counted : place ≡ 1 → Inside t tab e place force state w (record state { left = end.left; elses = end.elses }) w' end.thens
      counted z =
          record {
            left = omega (arith, counted-first z, nodes-one there, p.counted z, ran.count);
            edges = refl;
            recorded = refl;
            most = refl;
            few = λ o. omega (arith, ran.thens-small, p.counted z, ready.force_few);
            fed = λ o. rw (adds-codes place there, ← u) (ran.thens o);
            elses = λ y o q. else_none y o q;
          }

      pub added : (place ≡ 1 → ⊥) → Inside t tab e place force state w state w' end.thens
      added z =
          let k = p.free z in
          record {
            left = omega (arith, counted-other z);
            edges = refl;
            recorded = refl;
            most = refl;
            few = λ o. omega (arith, ran.thens-small, ran.count, k.0, k.1, nodes-one there);
            fed = λ o. rw (adds-codes place there, ← u) (ran.thens (omega (arith, ran.count, k.0, k.1, nodes-one there)));
            elses = λ y o q. absurd (z y);
          }

-- `inside`
module _ {s resolutions bindings : List ℕ} {e force : ℕ} {state : State} (ready : Ready s resolutions bindings e force state) (place : ℕ) (w : List ℕ) where
  pub inside-none : {rule : Rule} → Ruled (decode s) (given resolutions bindings) e rule place → (rule ≡ Guarded → ⊥) → Inside (decode s) (given resolutions bindings) e place force state w state w force
  inside-none (inl r) h = unasked ready place (rule_unguarded (decode s) (given resolutions bindings) e (λ q. h (r ∙ q))) w
  inside-none (inr r) h =
      unchanged ready place (counted-other ready place (λ z. absurd (omega (arith, r.2))))
      (adds_late (decode s) (given resolutions bindings) e place r.2 r.3) (λ z. absurd (omega (arith, z, r.2))) w

  pub inside-other : (place ≡ 1 → ⊥) → (place ≡ 2 → ⊥) → Inside (decode s) (given resolutions bindings) e place force state w state w force
  inside-other h g =
      unchanged ready place (counted-other ready place h) (adds_other (decode s) (given resolutions bindings) e place h g) (λ z. absurd (h z)) w

-- the item that takes a list
pub item_outcome : (from : Takes) → outcome from ≡ outcome_at (item_of from)
unfolding outcome item_of outcome_at pick
item_outcome ForTrue = refl
item_outcome ForFalse = refl
item_outcome Neither = refl

pub beside_true : (from : Takes) {other : Takes} → other ≡ beside from → item_of from ≡ 1 → outcome other ≡ outcome_at 2
unfolding outcome item_of outcome_at pick beside
beside_true ForTrue e h = rw e
beside_true ForFalse e h = absurd (omega (arith, h))
beside_true Neither e h = absurd (omega (arith, h))

pub item_for_true : {from : Takes} → from ≡ ForTrue → item_of from ≡ 1
unfolding item_of
item_for_true h = rw h

pub item_for_other : {from : Takes} → (from ≡ ForFalse) ⊎ (from ≡ Neither) → item_of from ≡ 1 → ⊥
unfolding item_of
item_for_other (inl h) z = omega (arith, ap item_of h, z)
item_for_other (inr h) z = omega (arith, ap item_of h, z)

-- what an analysis may spend
pub spends_counted : (t : Tree) (tab : Tables) (e place whole force : ℕ) (state : State) → place ≡ 1 → whole ≡ state.left + force → Spends t tab e place whole force state
spends_counted t tab e place whole force state h g = record { counted = λ z. g; free = λ z. absurd (z h) }

pub spends_free : (t : Tree) (tab : Tables) (e place whole force : ℕ) (state : State) → (place ≡ 1 → ⊥) → whole ≡ 4294967296 → force + nodes_at t tab e + state.left ≤ 2 ^ 32 → Spends t tab e place whole force state
spends_free t tab e place whole force state h g f = record { counted = λ z. absurd (h z); free = λ z. (g, f) }
