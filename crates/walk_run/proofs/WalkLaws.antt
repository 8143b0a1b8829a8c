-- The ways out of `traverse_expr` and `traverse_bindings`, in the terms of the code.
use Rattle.std.specs.Prelude.{Option}
use mathlib.Core.Path.{◌≡◌, refl, ap, sym, ◌∙◌}
use mathlib.Core.List.{List, [], ◌∷◌}
use Prim.Native.Nat.{ℕ, ◌+◌, ◌^◌, ◌≤◌, ◌<◌}
use native.Mathlib.Omega.{arith}
use lib.ListN.{length}
use Rattle.semantics.specs.Base.{numbered, each}
use Rattle.semantics.specs.Tree.{Tree, Item, expr_at}
use Rattle.semantics.specs.Resolution.{Tables}
use Rattle.semantics.specs.Narrow.{Narrowing, local_name}
use Rattle.semantics.specs.Walk.{steps, visits_from}
use Rattle.semantics.specs.Order.{RunToEnd}
use Rattle.semantics.proofs.OrderLaws.{ordered-runs}
use Rattle.image_fields.specs.Image.{count_of, decode}
use Rattle.image_fields.proofs.ImageLaws.{tree-items}
use Rattle.image.proofs.OrderedLaws.{ordered}
use Rattle.lent.specs.Inside.Stores.{entered}
use Rattle.given.specs.Given.{given}
use Rattle.given.specs.Inside.Resolved.{resolved}
use Rattle.narrow_texts.specs.Inside.Numbers.{numbered as binding_of}
use Rattle.narrow_run.specs.Inside.Run.{stored}
use Rattle.walk_visit.specs.declared.State.{State}
use Rattle.walk_visit.specs.Inside.Steps.{nodes_at, step_at}
use Rattle.walk_run.specs.Inside.Effects.{Effect, joined, spent, stepping, doing, recorded_numbers}
use Rattle.walk_visit.specs.Inside.Parts.{edges_of, Stepped}
use Rattle.walk_guard.specs.Inside.Added.{credit, Ready}
use Rattle.walk_run.specs.Inside.Run.{Sheet, sheet, Stands, Went, Ran, Opened, step_to, visits_below, Traversed}
use Rattle.walk_run.specs.Inside.Items.{from_item, Rest, Going, Leading, Led}
use Rattle.walk_run.proofs.EffectLaws.{visits_do}
use Rattle.walk_run.proofs.RanLaws.{went-same, went_then, ran-nothing, ran_then, ran-stop}
use Rattle.walk_run.proofs.StepLaws.{steps_all}
use Rattle.walk_run.proofs.LoopLaws.{few-nodes, from_start, going_done}

-- One step.
module _ (t : Tree) (resolutions bindings : List ℕ) {e force : ℕ} {b : Option ℕ} {state : State} {edges : List ℕ} {state' : State} {edges' : List ℕ} (p : Stepped t (resolved resolutions) e b force state edges state' edges')
    (ns xs w : List ℕ) where
  visit-went : Went force (sheet state edges ns xs w) (sheet state' edges' ns xs w)
  visit-went =
      record {
        fewer = omega (arith, p.left);
        edges = p.few;
        paid = omega (arith, p.left, p.recorded);
        recorded = omega (arith, p.recorded);
        most = p.more;
        long-narrowings = refl;
        long-working = refl;
        kept = λ o i l. refl;
      }

  visit-paid : 0 < state.left → credit state' + 2 ^ 32 ≤ credit state
  visit-paid o = omega (arith, p.left, p.recorded)

  same_edges : edges_of t (given resolutions bindings) e b ≡ edges_of t (resolved resolutions) e b
  unfolding edges_of local_name
  same_edges = refl

  visit-ran : Ran (stepping t (given resolutions bindings) e b force) (sheet state edges ns xs w) (sheet state' edges' ns xs w)
  unfolding entered recorded_numbers each stored
  visit-ran =
      record {
        count = p.left;
        edges = λ o. rw same_edges (p.fed o);
        most = p.most;
        recorded = λ o. omega (arith, p.recorded);
        exprs = λ o. refl;
        narrowings = λ o r. refl;
      }

-- What a call asks, from what its caller was asked.
module _ {s resolutions bindings : List ℕ} {e force : ℕ} {state : State} (ready : Ready s resolutions bindings e force state) where
  pub ready_visited : {edges ns xs w : List ℕ} {y : Sheet} → Went force (sheet state edges ns xs w) y → 0 < y.state.left → Ready s resolutions bindings e force y.state
  ready_visited g o =
      record {
        accepted = ready.accepted;
        resolved = ready.resolved;
        bound = ready.bound;
        inside = ready.inside;
        going = o;
        force_few = omega (arith, ready.force_few, g.fewer);
        edges_few = omega (arith, ready.edges_few, g.edges);
        credit-few = omega (arith, ready.credit-few, g.paid);
      }

  -- `traverse_expr`, from its step on
  module _ (bound : ℕ) {edges : List ℕ} {state₁ : State} {edges₁ : List ℕ} (ns xs w : List ℕ) (p : Stepped (decode s) (resolved resolutions) e (binding_of bound) force state edges state₁ edges₁) where
    abbrev t : Tree
    t = decode s

    abbrev tab : Tables
    tab = given resolutions bindings

    abbrev start : Sheet
    start = sheet state edges ns xs w

    abbrev here : Sheet
    here = sheet state₁ edges₁ ns xs w

    pub visited-went : Went force start here
    visited-went = visit-went t resolutions bindings p ns xs w

    run : RunToEnd t tab
    run = ordered-runs t tab (ordered s ready.accepted)

    abbrev below : List (ℕ × ℕ) → List Narrowing → Effect
    below way rs = from_item t tab e bound way rs 0

    whole : (way : List (ℕ × ℕ)) (rs : List Narrowing) → Stands rs force w
        → doing t tab (visits_from t tab (step_to e (binding_of bound)) way rs) ≡ joined (stepping t tab e (binding_of bound) force) (below way rs)
    whole way rs k =
        visits_do t tab run e (binding_of bound) way rs
        ∙ ap (λ n. joined (stepping t tab e (binding_of bound) n) (joined (spent (nodes_at t tab e)) (doing t tab (visits_below t tab e way rs (steps t tab e (binding_of bound)))))) (sym k.number)
        ∙ ap (joined (stepping t tab e (binding_of bound) force)) (sym (from_start s ready.accepted tab e ready.inside bound way rs))

    first : Ran (stepping t tab e (binding_of bound) force) start here
    first = visit-ran t resolutions bindings p ns xs w

    -- all that is visited below
    pub finish : {y : Sheet} → Rest s resolutions bindings e bound force 0 here y → Traversed s resolutions bindings e bound force start y
    finish f =
        record {
          went = went_then (omega arith) visited-went f.went;
          paid = omega (arith, visit-paid t resolutions bindings p ns xs w ready.going, f.went.paid);
          ran = λ way rs k. rw (whole way rs k) (ran_then (stepping t tab e (binding_of bound) force) (below way rs) f.went first (f.ran way rs k));
        }

    pub stop-visit : state₁.left ≡ 0 → Traversed s resolutions bindings e bound force start here
    stop-visit h =
        record {
          went = visited-went;
          paid = visit-paid t resolutions bindings p ns xs w ready.going;
          ran = λ way rs k. rw (whole way rs k) (ran-stop (stepping t tab e (binding_of bound) force) (below way rs) first h);
        }

    -- without items there is no condition, and nothing is below
    module _ {count : ℕ} (n : count ≡ length (expr_at t e).items) (z : count ≡ 0) where
      many : count_of s e ≡ 0
      many = sym (tree-items s e ready.inside) ∙ sym n ∙ z

      no_items : (l : List Item) → length l ≡ 0 → each (step_at t tab e bound) (numbered 0 l) ≡ []
      unfolding numbered each
      no_items [] h = refl
      no_items (i ∷ l) h = absurd (omega arith)

      no_steps : steps t tab e (binding_of bound) ≡ []
      no_steps = sym (steps_all s ready.accepted tab e ready.inside bound) ∙ no_items (expr_at t e).items (sym n ∙ z)

      pub stop-empty : Traversed s resolutions bindings e bound force start here
      unfolding each doing
      stop-empty =
          finish
          (record {
            went = went-same force here;
            ran = λ way rs k. rw (from_start s ready.accepted tab e ready.inside bound way rs, few-nodes s ready.accepted tab e ready.inside (omega (arith, many)), no_steps) ran-nothing;
          })

    -- what is below is visited
    module _ (o : 0 < state₁.left) where
      pub ready_below : Ready s resolutions bindings e force state₁
      ready_below = ready_visited visited-went o

      pub opened-below : Opened force state₁
      opened-below =
          record {
            force_most = omega (arith, p.most o);
            credit-few = omega (arith, ready.credit-few, visit-paid t resolutions bindings p ns xs w ready.going);
          }

      pub leading-below : Leading s resolutions e force state₁
      leading-below =
          let q = ready_below in
          let o' = opened-below in
          record {
            accepted = q.accepted;
            resolved = q.resolved;
            inside = q.inside;
            going = o;
            force_few = q.force_few;
            edges_few = q.edges_few;
            force_most = o'.force_most;
            credit-few = o'.credit-few;
          }

      -- .. from the items on that `leaves` has not visited
      module _ {state₂ : State} {edges₂ : List ℕ} {from : ℕ} (l : Led s resolutions e bound force state₁ edges₁ state₂ edges₂ from) where
        pub led_over : state₂.left ≡ 0 → Traversed s resolutions bindings e bound force start (sheet state₂ edges₂ ns xs w)
        led_over z = finish (l.over bindings ns xs w ready.bound z)

        module _ (on : 0 < state₂.left) where
          abbrev led : Going s resolutions bindings e bound force 0 here (sheet state₂ edges₂ ns xs w) from
          led = l.going bindings ns xs w ready.bound on

          pub led_all : {count : ℕ} → count ≡ length (expr_at t e).items → from ≡ count → Traversed s resolutions bindings e bound force start (sheet state₂ edges₂ ns xs w)
          led_all n q = finish (going_done led ready.accepted ready.inside (omega (arith, n, q)))

          pub led_few : from ≤ length (expr_at t e).items
          led_few = led.below

          pub ready_led : Ready s resolutions bindings e force state₂
          ready_led = ready_visited (went_then (omega arith) visited-went led.went) on

          pub opened_led : Opened force state₂
          opened_led =
              record {
                force_most = omega (arith, opened-below.force_most, led.went.most);
                credit-few = omega (arith, opened-below.credit-few, led.went.paid);
              }

          pub go_on : {y : Sheet} → Rest s resolutions bindings e bound force from (sheet state₂ edges₂ ns xs w) y → Traversed s resolutions bindings e bound force start y
          go_on {y} f =
              finish
              (record {
                went = went_then (omega arith) led.went f.went;
                ran = λ way rs k. led.rest way rs k y f.went (f.ran way rs k);
              })
