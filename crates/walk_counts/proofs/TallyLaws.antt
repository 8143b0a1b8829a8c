-- From large numbers to small: what is counted, and what is left of it, are the steps in all.
use Rattle.std.specs.Prelude.{Option, Some, None}
use mathlib.Core.Path.{◌≡◌, refl, sym, ap, subst, ◌∙◌}
use mathlib.Core.Bool.{true}
use mathlib.Core.List.{List}
use Prim.Native.Nat.{ℕ, ◌+◌, ◌-◌, ◌*◌, ◌≤◌, ◌<◌, ◌^◌, min}
use native.Mathlib.Nat.{mul-le-mul, zero-add, zero-mul}
use native.Mathlib.Numerals.{add-one}
use native.Mathlib.Omega.{arith}
use native.Mathlib.Decide.{ℕ_discrete}
use lib.Dec.{leb}
use lib.ListN.{set}
use borrow.Author.Tests.{leb-true, leb-false}
use Rattle.semantics.specs.Base.{sum, listed}
use Rattle.semantics.specs.Tree.{Tree, expr_at}
use Rattle.semantics.specs.Resolution.{Tables}
use Rattle.semantics.specs.Narrow.{nodes, global_name, builtin_set, another_set, chain_key, conditional_fn, call_condition}
use Rattle.semantics.specs.Walk.{condition_at, walk_steps}
use Rattle.codes.specs.Inside.Below.{Below}
use Rattle.image_fields.specs.Image.{expr_count, decode}
use Rattle.image.specs.Inside.Accepted.{Accepted}
use Rattle.given.specs.Given.{given}
use Rattle.given.specs.Inside.Resolved.{resolved}
use Rattle.resolve_laws.specs.Inside.Counts.{add_all, tally, once}
use Rattle.resolve_laws.proofs.WalkLaws.{step_weight}
use Rattle.resolve_counts.specs.Inside.Visits.{stop, count_at, Holds}
use Rattle.resolve_counts.proofs.TallyLaws.{once-few, once-held, entry-inside}
use Rattle.narrow_texts.specs.Inside.Numbers.{Finds}
use Rattle.narrow_texts.proofs.NumberLaws.{found_none, found_some}
use Rattle.narrow_counts.specs.Inside.Nodes.{Filled}
use Rattle.narrow_counts.proofs.NodeLaws.{not_asked}
use Rattle.walk_visit.specs.declared.Rule.{Rule}
use Rattle.walk_visit.specs.declared.Rule.TheVariants.{Guarded}
use Rattle.walk_visit.specs.Inside.Steps.{rule_of, nodes_at}
use Rattle.walk_guard.proofs.GuardLaws.{rule_unguarded}
use Rattle.walk_counts.specs.Inside.Visits.{kids, Weighed, Pushed, Counted, Affordable}
use Rattle.walk_counts.proofs.KidLaws.{added_none, steps_tallied, weights_are}

-- `weight`
alone : (t : Tree) (tab : Tables) (e : ℕ) → condition_at t tab e ≡ None → Weighed t tab e 1
unfolding nodes_at listed sum
alone t tab e h =
    let m : nodes_at t tab e ≡ 0 = rw h in
    record { told = λ l. omega (arith, m); least = omega arith; Some = omega arith; few = omega arith }

pub weighed_unguarded : (t : Tree) (tab : Tables) (e : ℕ) {rule : Rule} → rule ≡ rule_of t e → (rule ≡ Guarded → ⊥) → Weighed t tab e 1
weighed_unguarded t tab e h n = alone t tab e (rule_unguarded t tab e (λ z. n (h ∙ z)))

module _ (t : Tree) (tab : Tables) (e n : ℕ) {r : Option ℕ} (g : Finds n (condition_at t tab e) r) where
  pub weighed_alone : r ≡ None → Weighed t tab e 1
  weighed_alone h = alone t tab e (found_none g h)

  module _ {c : ℕ} (h : r ≡ Some c) where
    pub condition-inside : c < n
    condition-inside = subst (Below n) h g.inside

    pub weighed_with : {room : List ℕ} → Filled t n room → {x : ℕ} → x ≡ count_at room c → Weighed t tab e (1 + x)
    unfolding nodes_at listed sum
    weighed_with f {x} q =
        let m : nodes_at t tab e ≡ nodes t c + 0 = rw (found_some g h) in
        let k : x ≡ min (nodes t c) stop = q ∙ f.counts c condition-inside in
        record { told = λ l. omega (arith, m, k, l); least = omega (arith, m, k); Some = omega arith; few = omega (arith, k) }

-- no product of a count and a weight is too large
pub product_few : (v r : ℕ) → v < 2 ^ 32 → r ≤ 2 ^ 32 → v * r ≤ 2 ^ 64 - 2 ^ 32
product_few v r h k =
    let x : v ≤ 4294967295 = omega (arith, h) in
    let y : r ≤ 4294967296 = omega (arith, k) in
    let z : v * r ≤ 4294967295 * 4294967296 = mul-le-mul x y in
    omega (arith, z)

tally-more : (f : ℕ → List ℕ) (w : ℕ → ℕ) (e : ℕ) (p : ℕ → ℕ) → tally f w (e + 1) p ≡ p e * w e + tally f w e (add_all p (p e) (f e))
unfolding tally
tally-more f w e p = rw add-one

-- what a step counts is the same whatever the bindings
weight_any : (t : Tree) (resolutions bindings : List ℕ) → step_weight t (given resolutions bindings) ≡ step_weight t (resolved resolutions)
unfolding step_weight condition_at call_condition conditional_fn chain_key another_set builtin_set global_name
weight_any t resolutions bindings = refl

module _ (s resolutions : List ℕ) where
  abbrev t : Tree
  t = decode s

  abbrev weight : ℕ → ℕ
  weight = step_weight (decode s) (resolved resolutions)

  -- the loop of `count_visits`: below e so many visits wait
  pub record Counting (budget e steps : ℕ) (room : List ℕ) : Type 0 where
    pub inside : e ≤ expr_count s
    pub pend : ℕ → ℕ
    pub held : Holds (expr_count s) pend room
    pub few : steps ≡ 0 → (x : ℕ) → pend x ≤ 1
    pub all : (bindings : List ℕ) → steps + tally (kids t) weight e pend ≡ walk_steps t (given resolutions bindings)
    pub small : steps ≤ budget

module _ (s resolutions : List ℕ) (a : Accepted s) (budget : ℕ) where
  pub counting_start : {room : List ℕ} {entry : ℕ} → Holds (expr_count s) (λ e. 0) room → entry ≡ (decode s).entry → Counting s resolutions budget (entry + 1) 0 (set room entry 1)
  counting_start h i =
      record {
        inside = omega (arith, i, entry-inside s a);
        pend = once (decode s).entry;
        held = once-held s a h i;
        few = λ z x. once-few s a (decode s).entry x;
        all = λ bindings. rw (i, zero-add) (ap (λ w. tally (kids (decode s)) w ((decode s).entry + 1) (once (decode s).entry)) (sym (weight_any (decode s) resolutions bindings)) ∙ steps_tallied s a (given resolutions bindings));
        small = omega arith;
      }

  module _ {top steps : ℕ} {room : List ℕ} (c : Counting s resolutions budget top steps room) (e : ℕ) (d : top ≡ e + 1) {v : ℕ} (h : v ≡ count_at room e) where
    waiting : v ≡ min (c.pend e) stop
    waiting = h ∙ c.held.counts e (omega (arith, c.inside))

    pub waiting_few : v < 2 ^ 32
    waiting_few = omega (arith, waiting)

    left : (bindings : List ℕ) → steps + (c.pend e * weight s resolutions e + tally (kids (decode s)) (weight s resolutions) e (add_all c.pend (c.pend e) (kids (decode s) e))) ≡ walk_steps (decode s) (given resolutions bindings)
    left bindings = let x = c.all bindings in rw (d, tally-more) at x

    -- nothing waits
    pub counting_skip : v ≡ 0 → Counting s resolutions budget e steps room
    counting_skip z =
        let n : c.pend e ≡ 0 = omega (arith, waiting, z) in
        let same = added_none c.pend (c.pend e) (kids (decode s) e) n in
        record {
          inside = omega (arith, c.inside);
          pend = add_all c.pend (c.pend e) (kids (decode s) e);
          held = record { long = c.held.long; counts = λ x l. c.held.counts x l ∙ ap (λ y. min y stop) (sym (same x)) };
          few = λ y x. omega (arith, same x, c.few y x);
          all = λ bindings. omega (arith, left bindings, ap (λ y. y * weight s resolutions e) n ∙ zero-mul (weight s resolutions e));
          small = c.small;
        }

    module _ {r : ℕ} (g : Weighed (decode s) (resolved resolutions) e r) where
      -- the budget is exceeded
      pub counting_over : budget < steps + v * r → Counted (decode s) resolutions budget (steps + v * r)
      counting_over o =
          record {
            told = λ n. absurd (omega (arith, o, n));
            over = λ _ bindings. let m : v * r ≤ c.pend e * weight s resolutions e = mul-le-mul (omega (arith, waiting)) (omega (arith, g.least, weights_are (decode s) (resolved resolutions) e)) in omega (arith, o, m, left bindings);
          }

      module _ (small : budget < 2 ^ 32) (z : v ≡ 0 → ⊥) (n : steps + v * r ≤ budget) where
        least : (v ≤ v * r) × (r ≤ v * r)
        least =
            let x : v * 1 ≤ v * r = mul-le-mul (omega arith) (omega (arith, g.some)) in
            let y : 1 * r ≤ v * r = mul-le-mul (omega (arith, z)) (omega arith) in
            (omega (arith, x), omega (arith, y))

        -- a count that stopped would exceed it
        exact : c.pend e ≡ v
        exact = elim (ℕ_discrete steps 0) [ yes y ↦ omega (arith, waiting, c.few y e) | no y ↦ omega (arith, waiting, n, small, y, least.0) ]

        pub counting_more : {after : List ℕ} → Pushed s (rule_of (decode s) e) (expr_at (decode s) e).items v room after → Counting s resolutions budget e (steps + v * r) after
        counting_more p =
            record {
              inside = omega (arith, c.inside);
              pend = add_all c.pend v (kids (decode s) e);
              held = p.pushed c.pend c.held;
              few = λ y. absurd (omega (arith, y, z, least.0));
              all = λ bindings.
                  let w : r ≡ weight s resolutions e = g.told (omega (arith, least.1, n, small)) ∙ sym (weights_are (decode s) (resolved resolutions) e) in
                  let x = rw (exact, ← w) at (left bindings) in
                  omega (arith, x);
              small = n;
            }

  -- nothing is left
  pub counting_done : {steps : ℕ} {room : List ℕ} {e : ℕ} → Counting s resolutions budget e steps room → e ≡ 0 → Counted (decode s) resolutions budget steps
  unfolding tally
  counting_done c z =
      record {
        told = λ n bindings. let x : _ + 0 ≡ walk_steps (decode s) (given resolutions bindings) = rw z at (c.all bindings) in omega (arith, x);
        over = λ n. absurd (omega (arith, n, c.small));
      }

-- `affordable`
pub walk-not_asked : {s resolutions : List ℕ} {n budget : ℕ} → n ≡ expr_count s → budget ≤ 16 * n → Affordable s resolutions budget true
walk-not_asked h l = record { walks = λ bindings. not_asked h l }

pub walk_asked : {s resolutions : List ℕ} {budget r : ℕ} → Counted (decode s) resolutions budget r → Affordable s resolutions budget (leb r budget)
walk_asked {s} {resolutions} {budget} {r} c =
    record {
      walks = λ bindings.
          record {
            within = λ z m. let l = leb-true r budget z in omega (arith, l, c.told l bindings);
            over = λ z. c.over (leb-false r budget z) bindings;
          };
    }
