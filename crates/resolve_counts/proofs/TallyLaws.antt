-- From large numbers to small: what is counted, and what is left of it, is what the visits are in all.
use mathlib.Core.Path.{◌≡◌, refl, sym, ap, ◌∙◌}
use mathlib.Core.Bool.{Bool, true, false, cond, ◌&&◌}
use mathlib.Core.List.{List, [], ◌∷◌, ◌++◌, map}
use Prim.Native.Nat.{ℕ, suc, ◌+◌, ◌*◌, ◌≤◌, ◌<◌, ◌^◌, min}
use native.Mathlib.Nat.{mul-add, zero-mul, zero-add, mul-le-mul_left, mul-le-mul}
use native.Mathlib.Numerals.{add-one}
use native.Mathlib.Omega.{arith}
use native.Mathlib.Decide.{ℕ_discrete}
use lib.Dec.{eqb}
use lib.ListN.{length, set}
use Rattle.semantics.specs.Base.{keep, listed, only, sum, All}
use Rattle.semantics.specs.Tree.{Tree, Item, expr_at}
use Rattle.semantics.specs.Scopes.{makes, resolve_steps, scopes_made}
use Rattle.image_fields.specs.Image.{expr_count, decode}
use Rattle.image_fields.proofs.ImageLaws.{tree-items}
use Rattle.image.specs.Inside.Accepted.{Accepted}
use Rattle.image.proofs.OrderedLaws.{ordered}
use Rattle.resolve_laws.specs.Inside.Counts.{add, add_all, once, making, weigh}
use Rattle.resolve_laws.specs.Inside.Last.{below, reached}
use Rattle.resolve_laws.proofs.CountLaws.{dot, dot_all, tally_dot, low, weight_is, steps_are, scopes_made_lem}
use Rattle.resolve_counts.specs.declared.Counts.{Counts}
use Rattle.resolve_counts.specs.Inside.Visits.{stop, count_at, Holds, More, leads, leaf, inner, leaves, Pushed, Counted}
use Rattle.resolve_counts.proofs.VisitLaws.{steps_weight, scopes_weight, inner_below}
use Rattle.resolve_counts.proofs.RoomLaws.{stored_more, holds_more}

dot_more : (w : ℕ → ℕ) (e : ℕ) (p : ℕ → ℕ) → dot w (e + 1) p ≡ p e * w e + dot w e p
unfolding dot
dot_more w e p = rw add-one

-- the visits of e handed on to what it leads to
dot_push : (w : ℕ → ℕ) (e v a : ℕ) (p : ℕ → ℕ) (cs : List ℕ) → All (λ c. c < e) cs → p e ≡ v → w e ≡ a + sum (map w cs)
    → v * a + dot w e (add_all p v cs) ≡ dot w (e + 1) p
dot_push w e v a p cs h i j =
    let x : p e * w e ≡ v * a + v * sum (map w cs) = ap (λ z. z * w e) i ∙ ap (λ z. v * z) j ∙ mul-add v a (sum (map w cs)) in
    omega (arith, x, dot_more w e p, dot_all w v e cs p h)

dot_none : (w : ℕ → ℕ) (e : ℕ) (p : ℕ → ℕ) → p e ≡ 0 → dot w e p ≡ dot w (e + 1) p
dot_none w e p h = let x : p e * w e ≡ 0 = ap (λ z. z * w e) h ∙ zero-mul (w e) in omega (arith, x, dot_more w e p)

-- what waits at e is part of what is left
dot_least : (w : ℕ → ℕ) (e : ℕ) (p : ℕ → ℕ) → 1 ≤ w e → p e ≤ dot w (e + 1) p
dot_least w e p h = omega (arith, mul-le-mul_left (p e) h, dot_more w e p)

-- no product of a count and a number of leaves is too large
pub product_few : (v r : ℕ) → v < 2 ^ 32 → r < 2 ^ 20 → v * r < 2 ^ 52
product_few v r h k =
    let x : v ≤ 4294967295 = omega (arith, h) in
    let y : r ≤ 1048575 = omega (arith, k) in
    let z : v * r ≤ 4294967295 * 1048575 = mul-le-mul x y in
    omega (arith, z)

module _ (t : Tree) where
  -- the steps, and the scopes made, from a visit on
  abbrev steps_from : ℕ → ℕ
  steps_from e = weigh (λ d. 1) (reached t (suc e) e)

  abbrev scopes_from : ℕ → ℕ
  scopes_from e = weigh (making t) (reached t (suc e) e)

  -- the loop of `count_visits`: below e so many visits wait
  pub record Counting (n e steps scopes : ℕ) (room : List ℕ) : Type 0 where
    pub inside : e ≤ n
    pub pend : ℕ → ℕ
    pub held : Holds n pend room
    pub few : steps ≡ 0 → (x : ℕ) → pend x ≤ 1
    pub steps_all : steps + dot steps_from e pend ≡ resolve_steps t
    pub scopes_all : scopes + dot scopes_from e pend ≡ scopes_made t
    pub small : steps < 2 ^ 53
    pub fewer : scopes ≤ steps + 1

leaves-few : (t : Tree) (is : List Item) → leaves t is ≤ length is
unfolding leaves keep listed only
leaves-few t [] = omega arith
leaves-few t (i ∷ is) = go (leads i && leaf t i.expression) (leaves-few t is)
  where
    go : (b : Bool) → leaves t is ≤ length is → length (listed (only b i) ++ keep (λ i. leads i && leaf t i.expression) is) ≤ suc (length is)
    go true h = omega (arith, h)
    go false h = omega (arith, h)

module _ (s : List ℕ) (a : Accepted s) where
  abbrev t : Tree
  t = decode s

  steps-start : dot (steps_from t) (t.entry + 1) (once t.entry) ≡ resolve_steps t
  steps-start =
      rw add-one (sym (tally_dot (below t) (λ e. 1) (steps_from t) (low t (ordered s a)) (weight_is t (ordered s a) (λ e. 1)) (suc t.entry) (once t.entry)))
      ∙ steps_are t (ordered s a)

  scopes_start : 1 + dot (scopes_from t) (t.entry + 1) (once t.entry) ≡ scopes_made t
  scopes_start =
      ap (λ z. 1 + z) (rw add-one (sym (tally_dot (below t) (making t) (scopes_from t) (low t (ordered s a)) (weight_is t (ordered s a) (making t)) (suc t.entry) (once t.entry))))
      ∙ scopes_made_lem t (ordered s a)

  pub once-few : (e x : ℕ) → once e x ≤ 1
  unfolding once
  once-few e x = go (eqb x e)
    where
      go : (b : Bool) → cond b 1 0 ≤ 1
      go true = omega arith
      go false = omega arith

  pub entry-inside : t.entry < expr_count s
  unfolding decode
  entry-inside = a.entry

  pub once-held : {room : List ℕ} {entry : ℕ} → Holds (expr_count s) (λ e. 0) room → entry ≡ t.entry → Holds (expr_count s) (once t.entry) (set room entry 1)
  unfolding once add
  once-held {room} {entry} h i =
      let l : entry < expr_count s = omega (arith, i, entry-inside) in
      let m : More entry 1 room (set room entry 1) = stored_more entry (omega (arith, h.long)) (sym (h.counts entry l)) refl in
      let g = holds_more h l m in
      record { long = g.long; counts = λ e k. rw (← i) (g.counts e k) }

  pub counting_start : {room : List ℕ} {entry : ℕ} → Holds (expr_count s) (λ e. 0) room → entry ≡ t.entry → Counting t (expr_count s) (entry + 1) 0 1 (set room entry 1)
  counting_start h i =
      record {
        inside = omega (arith, i, entry-inside);
        pend = once t.entry;
        held = once-held h i;
        few = λ z x. once-few t.entry x;
        steps_all = rw (i, zero-add) steps-start;
        scopes_all = rw i scopes_start;
        small = omega arith;
        fewer = omega arith;
      }

  pub pushed-few : {e v r : ℕ} {before after : List ℕ} → e < expr_count s → Pushed s (expr_at t e).items v r before after → r < 2 ^ 20
  pushed-few {e} l p = omega (arith, p.bare, leaves-few t (expr_at t e).items, tree-items s e l, a.runs e l, a.sized.items-few)

  module _ {top steps scopes : ℕ} {room : List ℕ} (c : Counting t (expr_count s) top steps scopes room) (e : ℕ) (d : top ≡ e + 1) {v : ℕ} (h : v ≡ count_at room e) where
    waiting : v ≡ min (c.pend e) stop
    waiting = h ∙ c.held.counts e (omega (arith, c.inside))

    pub waiting_few : v < 2 ^ 32
    waiting_few = omega (arith, waiting)

    steps-left : steps + dot (steps_from t) (e + 1) c.pend ≡ resolve_steps t
    steps-left = rw d at c.steps_all

    scopes_left : scopes + dot (scopes_from t) (e + 1) c.pend ≡ scopes_made t
    scopes_left = rw d at c.scopes_all

    -- nothing waits
    pub counting_skip : v ≡ 0 → Counting t (expr_count s) e steps scopes room
    counting_skip z =
        let n : c.pend e ≡ 0 = omega (arith, waiting, z) in
        record {
          inside = omega (arith, c.inside);
          pend = c.pend;
          held = c.held;
          few = c.few;
          steps_all = rw (dot_none (steps_from t) e c.pend n) steps-left;
          scopes_all = rw (dot_none (scopes_from t) e c.pend n) scopes_left;
          small = c.small;
          fewer = c.fewer;
        }

    -- the budget is exceeded
    pub counting_over : {budget : ℕ} → budget < steps + v → {r : Counts} → r.steps ≡ steps + v → Counted t budget r
    counting_over {budget} o {r} q =
        record {
          steps-told = λ n. absurd (omega (arith, o, q, n));
          scopes_told = λ n. absurd (omega (arith, o, q, n));
          over = λ _. omega (arith, o, waiting, steps-left, dot_least (steps_from t) e c.pend (omega (arith, steps_weight s a e (omega (arith, c.inside)))));
        }

    module _ {budget : ℕ} (small : budget < 2 ^ 32) (n : steps + v ≤ budget) where
      -- a count that stopped would exceed it
      exact : c.pend e ≡ v
      exact = elim (ℕ_discrete steps 0) [ yes z ↦ omega (arith, waiting, c.few z e) | no z ↦ omega (arith, waiting, n, small, z) ]

      module _ (l : e < expr_count s) {r : ℕ} {after : List ℕ} (p : Pushed s (expr_at t e).items v r room after) (z : v ≡ 0 → ⊥) where
        steps-pushed : steps + v + v * r + dot (steps_from t) e (add_all c.pend v (inner t (expr_at t e).items)) ≡ resolve_steps t
        steps-pushed =
            let x = dot_push (steps_from t) e v (1 + r) c.pend (inner t (expr_at t e).items) (inner_below s a e l) exact (rw p.bare (steps_weight s a e l)) in
            omega (arith, x, mul-add v 1 r, steps-left)

        scopes_pushed : scopes + v * making t e + dot (scopes_from t) e (add_all c.pend v (inner t (expr_at t e).items)) ≡ scopes_made t
        scopes_pushed =
            let x = dot_push (scopes_from t) e v (making t e) c.pend (inner t (expr_at t e).items) (inner_below s a e l) exact (scopes_weight s a e l) in
            omega (arith, x, scopes_left)

        few_enough : steps + v + v * r < 2 ^ 53
        few_enough = omega (arith, product_few v r (omega (arith, n, small)) (pushed-few l p), n, small)

        counting_more : {more : ℕ} → more ≡ scopes + v * making t e → more ≤ scopes + v → Counting t (expr_count s) e (steps + v + v * r) more after
        counting_more {more} q m =
            record {
              inside = omega (arith, c.inside);
              pend = add_all c.pend v (inner t (expr_at t e).items);
              held = p.pushed c.pend c.held;
              few = λ y. absurd (omega (arith, y, z));
              steps_all = steps-pushed;
              scopes_all = rw q scopes_pushed;
              small = few_enough;
              fewer = omega (arith, c.fewer, m);
            }

        pub counting_makes : {b : Bool} → b ≡ makes t e → b ≡ true → Counting t (expr_count s) e (steps + v + v * r) (scopes + v) after
        unfolding making
        counting_makes g y = counting_more (rw (← g, y) (omega arith)) (omega arith)

        pub counting_plain : {b : Bool} → b ≡ makes t e → b ≡ false → Counting t (expr_count s) e (steps + v + v * r) scopes after
        unfolding making
        counting_plain g y = counting_more (rw (← g, y) (omega arith)) (omega arith)

  -- nothing is left
  pub counting_done : {steps scopes : ℕ} {room : List ℕ} {e : ℕ} → Counting t (expr_count s) e steps scopes room → e ≡ 0 → (budget : ℕ) → {r : Counts} → r.steps ≡ steps → r.scopes ≡ scopes → Counted t budget r
  unfolding dot
  counting_done c z budget p q =
      let x : _ + 0 ≡ resolve_steps t = rw z at c.steps_all in
      let y : _ + 0 ≡ scopes_made t = rw z at c.scopes_all in
      record { steps-told = λ n. omega (arith, p, x); scopes_told = λ n. omega (arith, q, y); over = λ n. omega (arith, p, x, n) }
