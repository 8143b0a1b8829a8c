-- `traverse_expr` and `trace`: what each way out of them leaves, in the terms of the code.
use mathlib.Core.Path.{◌≡◌, refl, ap, sym, subst, ◌∙◌}
use mathlib.Core.Bool.{Bool}
use mathlib.Core.List.{List, [], ◌∷◌, ◌++◌}
use Prim.Native.Nat.{ℕ, ◌+◌, ◌*◌, ◌≤◌, ◌<◌}
use native.Mathlib.Omega.{arith}
use lib.ListN.{length, drop, replicate, length-append, length-replicate, length-drop}
use Rattle.semantics.specs.Base.{first}
use Rattle.semantics.specs.Tree.{Tree, Item, expr_at}
use Rattle.semantics.specs.Scopes.{Scope}
use Rattle.semantics.specs.Resolution.{with_of}
use Rattle.semantics.specs.Order.{Ordered}
use Rattle.image_fields.specs.Image.{expr_count, decode}
use Rattle.image_fields.proofs.ImageLaws.{tree-exprs}
use Rattle.image.specs.Inside.Accepted.{Accepted}
use Rattle.image.proofs.OrderedLaws.{ordered}
use Rattle.lent.proofs.HalfLaws.{half_blank}
use Rattle.lent.proofs.WordLaws.{blank}
use Rattle.resolve_laws.specs.Inside.Last.{entered, entered_of}
use Rattle.resolve_laws.specs.Inside.Logged.{closing, log_of, half, Logged, mark_at, Traced}
use Rattle.resolve_events.specs.Inside.Pass.{Trail, visit, pass, entering, pass_all, ended, pass_below, Sheet, sheet, Held, spare_of, number_of}
use Rattle.resolve_events.specs.Inside.Pass.{Ready, Traversed, Blank}
use Rattle.resolve_events.proofs.PassLaws.{pass_again, pass-first, pass_all-none, ended-nothing}
use Rattle.resolve_events.proofs.TurnLaws.{first_turns, second_turns, first-length, second-length}
use Rattle.resolve_events.proofs.RoundLaws.{visits_of, visits_nil, both_rounds, rounds_done}
use Rattle.resolve_events.proofs.HeldLaws.{went-same, went_then, held_less, held-few, new_here, seen_here}

-- without items nothing is below
empty-list : {A : Type 0} (xs : List A) → length xs ≤ 0 → xs ≡ []
empty-list [] h = refl
empty-list (x ∷ xs) h = absurd (omega arith)

nothing-below : (s : List ℕ) (a : Accepted s) (e : ℕ) (l : e < expr_count s) (c : Scope) (x : Trail) → length (expr_at (decode s) e).items ≡ 0 → pass_below (decode s) e c x ≡ x
unfolding both_rounds
nothing-below s a e l c x z =
    sym (rounds_done s a e l c x)
    ∙ nothing (second_turns (decode s) e) (omega (arith, z, second-length s a e l)) (ended (closing (decode s) e) e (length x.events) (pass_all (decode s) (visits_of (decode s) e c (first_turns (decode s) e)) x))
    ∙ ap (ended (closing (decode s) e) e (length x.events)) (nothing (first_turns (decode s) e) (omega (arith, z, first-length s a e l)) x)
    ∙ ended-nothing (closing (decode s) e) e x
  where
    nothing : (us : List (Bool × Item)) → length us ≤ 0 → (u : Trail) → pass_all (decode s) (visits_of (decode s) e c us) u ≡ u
    nothing us h u = ap (λ z. pass_all (decode s) z u) (ap (visits_of (decode s) e c) (empty-list us h) ∙ visits_nil (decode s) e c) ∙ pass_all-none (decode s) u

-- What is asked holds on, once a part of the pass has gone.
pub ready_on : {s : List ℕ} {e with spare spare' : ℕ} {f : Scope → Trail → Trail} {y z : Sheet} → Ready s e with spare y → Traversed s f with spare spare' y z → Ready s e with spare' z
ready_on r p =
    record {
      accepted = r.accepted;
      inside = r.inside;
      with_small = r.with_small;
      table-room = omega (arith, r.table-room, p.went.table-long);
      working-room = omega (arith, r.working-room, p.went.working-long);
      scope = r.scope;
      within = r.within;
      trail = _;
      held = p.passed r.scope r.trail r.within r.held;
    }

-- The ways out of `traverse_expr`.
module _ {s : List ℕ} {e with : ℕ} {y : Sheet} (r : Ready s e with 0 y) where
  abbrev t : Tree
  t = decode s

  in_order_lem : Ordered (decode s)
  in_order_lem = ordered s r.accepted

  pub expr_again : (half y.table e ≡ 0 → ⊥) → Traversed s (λ c. pass (decode s) (visit e c)) with 0 0 y y
  expr_again h =
      record {
        went = went-same y;
        passed = λ c x w d. subst (λ z. Held t (expr_count s) 0 z y)
            (sym (pass_again t in_order_lem (visit e c) x (seen_here d r.inside h).other (seen_here d r.inside h).there)) d;
      }

  module _ (z : half y.table e ≡ 0) {here : Sheet} (p : Traversed s (λ c. entering (decode s) (visit e c)) with 0 (spare_of (decode s) e) y here) where
    pub expr-below : {after : Sheet} → Traversed s (pass_below (decode s) e) with (spare_of (decode s) e) 0 here after
        → Traversed s (λ c. pass (decode s) (visit e c)) with 0 0 y after
    expr-below {after} q =
        record {
          went = went_then p.went q.went;
          passed = λ c x w d. subst (λ u. Held t (expr_count s) 0 u after) (sym (pass-first t in_order_lem (visit e c) x (new_here d r.inside z)))
              (q.passed c (entering t (visit e c) x) w (p.passed c x w d));
        }

    -- without items
    pub expr-leaf : {count : ℕ} → count ≡ length (expr_at (decode s) e).items → count ≡ 0 → Traversed s (λ c. pass (decode s) (visit e c)) with 0 0 y here
    expr-leaf n k =
        expr-below
        (record { went = went-same here; passed = λ c x w d. subst (λ u. Held t (expr_count s) 0 u here) (sym (nothing-below s r.accepted e r.inside c x (sym n ∙ k))) (held_less (omega arith) d) })

-- what a front that was cleared has
pub cleared : {s : List ℕ} (before : List ℕ) {table working : List ℕ} {count : ℕ} → count ≡ expr_count s → 2 * count ≤ length before → 4 * count ≤ length working
    → table ≡ replicate (2 * count) 0 ++ drop (2 * count) before → Blank s table working
cleared before {count = count} n l m q =
    record {
      table-room = rw (← n, q) (omega (arith, length-append (replicate (2 * count) 0) (drop (2 * count) before), length-replicate {A = ℕ} (2 * count) 0, length-drop (2 * count) before));
      working-room = rw (← n) m;
      zero-marks = λ i k. rw q (blank (2 * count) i (drop (2 * count) before) (omega (arith, k, n)));
    }

-- The whole pass, from marks that are zero.
module _ {s table working : List ℕ} (a : Accepted s) (zeros : Blank s table working) {entry : ℕ} (h : entry ≡ (decode s).entry) where
  no_with_lem : ◌≡◌ {A = ℕ} 16383 (number_of (with_of (decode s) []))
  unfolding with_of number_of first
  no_with_lem = refl

  start : Held (decode s) (expr_count s) 0 (record { visits = []; events = [] }) (sheet table working 0)
  unfolding mark_at entered first Logged
  start =
      record {
        marked = record { marks = λ e l. half_blank table (2 * e) (zeros.zero-marks (2 * e) (omega (arith, l))) (zeros.zero-marks (2 * e + 1) (omega (arith, l))) };
        logged = tt;
        number = refl;
        few = omega arith;
        low = tt;
        once = tt;
      }

  pub ready_entry : Ready s entry 16383 0 (sheet table working 0)
  unfolding decode
  ready_entry =
      record {
        accepted = a;
        inside = rw h a.entry;
        with_small = omega arith;
        table-room = zeros.table-room;
        working-room = zeros.working-room;
        scope = [];
        within = no_with_lem;
        trail = record { visits = []; events = [] };
        held = start;
      }

  pub blank_entry : half table entry ≡ 0
  unfolding mark_at entered first
  blank_entry = start.marked.marks entry ready_entry.inside

  pub traced : {table' working' : List ℕ} {events : ℕ} → Traversed s (λ c. pass (decode s) (visit entry c)) 16383 0 0 (sheet table working 0) (sheet table' working' events)
      → Traced (decode s) table' working' events
  unfolding pass log_of entered_of
  traced {table'} {working'} {events} p =
      record {
        number = held.number;
        few = omega (arith, held-few held, tree-exprs s);
        logged = held.logged;
        marked = rw (tree-exprs s) held.marked;
      }
    where
      held : Held (decode s) (expr_count s) 0 (pass (decode s) (visit (decode s).entry []) (record { visits = []; events = [] })) (sheet table' working' events)
      held = subst (λ e. Held (decode s) (expr_count s) 0 (pass (decode s) (visit e []) (record { visits = []; events = [] })) (sheet table' working' events)) h (p.passed [] (record { visits = []; events = [] }) no_with_lem start)
