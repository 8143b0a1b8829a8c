-- Runs of parts of the walk (specs/Inside/Run.antt), put together one after the other: done, over the budget, stopped.
use mathlib.Core.Path.{◌≡◌, refl, ap, sym, ◌∙◌}
use mathlib.Core.List.{List, [], ◌∷◌, ◌++◌, map, map-append}
use Prim.Native.Nat.{ℕ, ◌+◌, ◌*◌, ◌≤◌, ◌<◌, max}
use native.Mathlib.Nat.{max-zero}
use native.Mathlib.Omega.{arith}
use lib.ListN.{length, length-append}
use Rattle.semantics.specs.Base.{each}
use Rattle.semantics.specs.Narrow.{Narrowing}
use Rattle.semantics.proofs.BaseLaws.{each-++}
use Rattle.lent.specs.Inside.Stores.{store16, entered}
use Rattle.narrow_run.specs.Inside.Run.{stored}
use Rattle.narrow_run.proofs.RunLaws.{stored_append, fed-none, fed_then}
use Rattle.walk_run.specs.Inside.Effects.{Effect, nothing_done, joined, recorded_numbers}
use Rattle.walk_visit.specs.Inside.Parts.{edge_number}
use Rattle.walk_run.proofs.EffectLaws.{max_three}
use Rattle.walk_run.specs.Inside.Run.{Sheet, Roomy, Went, Ran}

pub went-same : (force : ℕ) (x : Sheet) → Went force x x
went-same force x =
    record {
      fewer = omega arith;
      edges = omega arith;
      paid = omega arith;
      recorded = omega arith;
      most = omega arith;
      long-narrowings = refl;
      long-working = refl;
      kept = λ o i l. refl;
    }

-- a part with more in force inside one with less
pub went_then : {force inside : ℕ} {x y z : Sheet} → force ≤ inside → Went force x y → Went inside y z → Went force x z
went_then f p q =
    record {
      fewer = omega (arith, p.fewer, q.fewer);
      edges = omega (arith, p.edges, q.edges);
      paid = omega (arith, p.paid, q.paid);
      recorded = omega (arith, p.recorded, q.recorded);
      most = omega (arith, p.most, q.most);
      long-narrowings = q.long-narrowings ∙ p.long-narrowings;
      long-working = q.long-working ∙ p.long-working;
      kept = λ o i l. q.kept o i (omega arith) ∙ p.kept (omega (arith, q.fewer)) i l;
    }

-- .. whatever was in force
pub went-any : {inside : ℕ} {x y : Sheet} → Went inside x y → Went 0 x y
went-any g =
    record {
      fewer = g.fewer;
      edges = g.edges;
      paid = g.paid;
      recorded = g.recorded;
      most = g.most;
      long-narrowings = g.long-narrowings;
      long-working = g.long-working;
      kept = λ o i l. absurd (omega arith);
    }

entered_append : (bs cs : List (ℕ × ℕ)) (l : List ℕ) → entered (bs ++ cs) l ≡ entered cs (entered bs l)
unfolding entered
entered_append [] cs l = refl
entered_append (b ∷ bs) cs l = entered_append bs cs (store16 l (2 * b.0) b.1)

pub numbers-many : (rs : List (ℕ × Narrowing)) → length (recorded_numbers rs) ≡ 2 * length rs
unfolding recorded_numbers each
numbers-many [] = refl
numbers-many (r ∷ rs) = omega (arith, numbers-many rs)

pub ran-nothing : {x : Sheet} → Ran nothing_done x x
unfolding entered recorded_numbers each stored
ran-nothing {x} =
    record {
      count = omega arith;
      edges = λ o. fed-none _ _;
      most = λ o. sym (max-zero x.state.most);
      recorded = λ o. omega arith;
      exprs = λ o. refl;
      narrowings = λ o r. refl;
    }

roomy_before : {inside : ℕ} {y z : Sheet} → Went inside y z → Roomy z → Roomy y
roomy_before g r =
    record { working = omega (arith, r.working, g.most, g.long-working); narrowings = omega (arith, r.narrowings, g.recorded, g.long-narrowings) }

pub ran_then : {inside : ℕ} (f g : Effect) {x y z : Sheet} → Went inside y z → Ran f x y → Ran g y z → Ran (joined f g) x z
unfolding recorded_numbers
ran_then f g {x} {y} {z} w p q =
    record {
      count = omega (arith, p.count, q.count);
      edges = λ o. rw (map-append edge_number f.edges g.edges) (fed_then (map edge_number f.edges) (map edge_number g.edges) (p.edges (on o)) (q.edges o));
      most = λ o. q.most o ∙ ap (λ m. max m g.most) (p.most (on o)) ∙ max_three x.state.most f.most g.most;
      recorded = λ o. omega (arith, q.recorded o, p.recorded (on o), length-append f.recorded g.recorded);
      exprs = λ o. q.exprs o ∙ ap (entered g.bound) (p.exprs (on o)) ∙ sym (entered_append f.bound g.bound x.exprs);
      narrowings = λ o r.
          let e : 2 * x.state.recorded + length (recorded_numbers f.recorded) ≡ 2 * y.state.recorded = omega (arith, p.recorded (on o), numbers-many f.recorded) in
          q.narrowings o r
          ∙ ap (stored (recorded_numbers g.recorded) (2 * y.state.recorded)) (p.narrowings (on o) (roomy_before w r))
          ∙ ap (λ k. stored (recorded_numbers g.recorded) k (stored (recorded_numbers f.recorded) (2 * x.state.recorded) x.narrowings)) (sym e)
          ∙ sym (stored_append (recorded_numbers f.recorded) (recorded_numbers g.recorded) (2 * x.state.recorded) x.narrowings)
          ∙ ap (λ l. stored l (2 * x.state.recorded) x.narrowings) (sym (each-++ _ f.recorded g.recorded));
    }
  where
    on : 0 < z.state.left → 0 < y.state.left
    on o = omega (arith, q.count)

-- where nothing is left, nothing more is said
pub ran_over : (f : Effect) {x y : Sheet} → y.state.left ≡ 0 → x.state.left ≤ f.cost → Ran f x y
ran_over f h l =
    record {
      count = omega (arith, h, l);
      edges = λ o. absurd (omega (arith, h));
      most = λ o. absurd (omega (arith, h));
      recorded = λ o. absurd (omega (arith, h));
      exprs = λ o. absurd (omega (arith, h));
      narrowings = λ o. absurd (omega (arith, h));
    }

pub ran-stop : (f g : Effect) {x y : Sheet} → Ran f x y → y.state.left ≡ 0 → Ran (joined f g) x y
ran-stop f g p h = ran_over (joined f g) h (omega (arith, p.count))
