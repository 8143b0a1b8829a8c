-- What is lent holds the trail: through the two things that are written, a visit and an end.
use Rattle.std.specs.Prelude.{Option, Some, None}
use mathlib.Core.Path.{◌≡◌, refl, ap, sym, subst, ◌∙◌}
use mathlib.Core.Bool.{Bool, true, false, cond, ◌&&◌}
use mathlib.Core.List.{List, [], ◌∷◌}
use Prim.Native.Nat.{ℕ, suc, ◌+◌, ◌*◌, ◌^◌, ◌≤◌, ◌<◌}
use native.Mathlib.Omega.{arith}
use native.Mathlib.Decide.{ℕ_discrete, dec_lt}
use lib.Dec.{ltb}
use lib.ListN.{length, drop}
use borrow.Author.Tests.{eq-eqb, ne_eqb, lt-ltb, le-ltb}
use Rattle.semantics.specs.Codes.{kinds}
use Rattle.semantics.specs.Base.{first, only, or_else}
use Rattle.semantics.specs.Tree.{Tree, expr_at, is_kind}
use Rattle.semantics.specs.Scopes.{ScopeVisit}
use Rattle.semantics.specs.Resolution.{with_of}
use Rattle.image_fields.specs.Image.{expr_count, decode}
use Rattle.lent.specs.Inside.Stores.{store16}
use Rattle.lent.proofs.BufferLaws.{length-store16}
use Rattle.lent.proofs.HalfLaws.{half-stored, half-below, half_above, store16-behind}
use Rattle.resolve_laws.specs.Inside.Last.{entered}
use Rattle.resolve_laws.specs.Inside.Events.{Event, refers, leaves, own_event}
use Rattle.resolve_laws.specs.Inside.Logged.{closing, half, Logged, no_with, with_entry, mark_of, mark_at, Marked}
use Rattle.resolve_laws.proofs.RoomLaws.{once-few}
use Rattle.resolve_events.specs.Inside.Pass.{Trail, visit, entering, ended, Sheet, sheet, Held, spare_of, number_of, Ready, Went, Traversed, Ended}
use Rattle.resolve_events.proofs.PassLaws.{apart}

pub went-same : {n : ℕ} (y : Sheet) → Went n y y
went-same y = record { table-long = refl; working-long = refl; behind = refl }

pub went_then : {n : ℕ} {x y z : Sheet} → Went n x y → Went n y z → Went n x z
went_then p q = record { table-long = q.table-long ∙ p.table-long; working-long = q.working-long ∙ p.working-long; behind = q.behind ∙ p.behind }

-- with fewer events to come
pub held_less : {t : Tree} {n spare less : ℕ} {x : Trail} {y : Sheet} → less ≤ spare → Held t n spare x y → Held t n less x y
held_less l h =
    record { marked = h.marked; logged = h.logged; number = h.number; few = omega (arith, l, h.few); low = h.low; once = h.once }

-- Events are kept by what is written behind them.
logged_on : (log : List Event) (w u : List ℕ) → ((i : ℕ) → i < 2 * length log → half u i ≡ half w i) → Logged log w → Logged log u
unfolding Logged
logged_on [] w u h l = tt
logged_on (refers v ∷ log) w u h l =
    (h (2 * length log) (omega arith) ∙ l.0, logged_on log w u (λ i m. h i (omega (arith, m))) l.1)
logged_on (leaves e k ∷ log) w u h l =
    (h (2 * length log) (omega arith) ∙ l.0, h (2 * length log + 1) (omega arith) ∙ l.1, logged_on log w u (λ i m. h i (omega (arith, m))) l.2)

logged-behind : (log : List Event) (w : List ℕ) (at x : ℕ) → 4 * length log ≤ at → Logged log w → Logged log (store16 w at x)
logged-behind log w at x m l = logged_on log w (store16 w at x) (λ i q. half-below w at x (2 * i) (omega (arith, m, q))) l

-- a mark is never 0
mark_big : (t : Tree) (v : ScopeVisit) → 0 < mark_of t v
unfolding mark_of with_entry
mark_big t v = go (is_kind t kinds.Reference v.expr) (with_of t v.scope)
  where
    go : (b : Bool) (o : Option ℕ) → 0 < cond b (with_entry o) no_with
    go true None = omega arith
    go true (Some w) = omega arith
    go false o = omega arith

not_entered : (t : Tree) (o : Option ScopeVisit) → mark_at t o ≡ 0 → o ≡ None
unfolding mark_at
not_entered t None h = refl
not_entered t (Some v) h = absurd (omega (arith, h, mark_big t v))

-- the visit that an expression with a mark has
pub record Again (e : ℕ) (acc : List ScopeVisit) : Type 0 where
  pub other : ScopeVisit
  pub there : entered e acc ≡ Some other

some-entered : (t : Tree) (e : ℕ) (acc : List ScopeVisit) → (mark_at t (entered e acc) ≡ 0 → ⊥) → Again e acc
unfolding mark_at
some-entered t e acc h = go (entered e acc) refl h
  where
    go : (o : Option ScopeVisit) → entered e acc ≡ o → (mark_at t o ≡ 0 → ⊥) → Again e acc
    go None q k = absurd (k refl)
    go (Some v) q k = record { other = v; there = q }

with_entry_lem : (o : Option ℕ) → with_entry o ≡ 49152 + number_of o
unfolding with_entry number_of
with_entry_lem None = refl
with_entry_lem (Some w) = omega arith

entered-same : (v : ScopeVisit) (acc : List ScopeVisit) → entered v.expr (v ∷ acc) ≡ Some v
unfolding entered first only or_else
entered-same v acc = rw (eq-eqb v.expr v.expr refl)

entered-other : (f : ℕ) (v : ScopeVisit) (acc : List ScopeVisit) → (v.expr ≡ f → ⊥) → entered f (v ∷ acc) ≡ entered f acc
unfolding entered first only or_else
entered-other f v acc h = rw (ne_eqb v.expr f h)

-- a mark is written
marked_more : (t : Tree) (v : ScopeVisit) (acc : List ScopeVisit) (n : ℕ) (table : List ℕ) (x : ℕ) → v.expr < n → 2 * n ≤ length table → x < 65536 → mark_of t v ≡ x
    → Marked t acc n table → Marked t (v ∷ acc) n (store16 table (2 * v.expr) x)
unfolding mark_at
marked_more t v acc n table x l room small q m = record { marks = marks }
  where
    own : half (store16 table (2 * v.expr) x) v.expr ≡ mark_at t (entered v.expr (v ∷ acc))
    own = half-stored table (2 * v.expr) x (omega (arith, l, room)) small ∙ sym q ∙ sym (ap (mark_at t) (entered-same v acc))

    other : (f : ℕ) → f < n → (v.expr ≡ f → ⊥) → half (store16 table (2 * v.expr) x) f ≡ mark_at t (entered f (v ∷ acc))
    other f k h =
        elim (dec_lt f v.expr) [
          | yes p ↦ half-below table (2 * v.expr) x (2 * f) (omega (arith, p))
          | no p ↦ half_above table (2 * v.expr) x (2 * f) (omega (arith, p, h))
        ]
        ∙ m.marks f k
        ∙ sym (ap (mark_at t) (entered-other f v acc h))

    marks : (f : ℕ) → f < n → half (store16 table (2 * v.expr) x) f ≡ mark_at t (entered f (v ∷ acc))
    marks f k = elim (ℕ_discrete v.expr f) [ yes h ↦ subst (λ z. half (store16 table (2 * v.expr) x) z ≡ mark_at t (entered z (v ∷ acc))) h own | no h ↦ other f k h ]

-- What is asked gives, of an expression whose mark is 0:
module _ {t : Tree} {n spare : ℕ} {x : Trail} {y : Sheet} (h : Held t n spare x y) where
  pub held-few : y.at ≤ n
  held-few = omega (arith, h.number, h.few, once-few n x.visits h.once h.low)

  module _ {e : ℕ} (l : e < n) (z : half y.table e ≡ 0) where
    pub new_here : entered e x.visits ≡ None
    new_here = not_entered t (entered e x.visits) (sym (h.marked.marks e l) ∙ z)

    pub new_few : y.at < n
    new_few = omega (arith, h.number, h.few, length_more)
      where
        length_more : suc (length x.visits) ≤ n
        length_more = once-few n (visit e [] ∷ x.visits) (new_here, h.once) (l, h.low)

  module _ {e : ℕ} (l : e < n) (z : half y.table e ≡ 0 → ⊥) where
    pub seen_here : Again e x.visits
    seen_here = some-entered t e x.visits (λ q. z (h.marked.marks e l ∙ q))

-- The ways out of `enter`.
module _ {s : List ℕ} {e with at : ℕ} {table working : List ℕ} (r : Ready s e with 0 (sheet table working at)) (z : half table e ≡ 0) {kind : ℕ} (kk : kind ≡ (expr_at (decode s) e).kind) where
  abbrev t : Tree
  t = decode s

  abbrev n : ℕ
  n = expr_count s

  abbrev start : Sheet
  start = sheet table working at

  pub enter-few : at < expr_count s
  enter-few = new_few r.held r.inside z

  spare-small : spare_of t e ≤ 1
  unfolding spare_of
  spare-small = go (closing t e)
    where
      go : (b : Bool) → cond b 1 0 ≤ 1
      go true = omega arith
      go false = omega arith

  went_mark : (x : ℕ) {table' working' : List ℕ} {at' : ℕ} → table' ≡ store16 table (2 * e) x → length working' ≡ length working → Went n start (sheet table' working' at')
  went_mark x q w =
      record {
        table-long = ap length q ∙ length-store16 table (2 * e) x;
        working-long = w;
        behind = ap (drop (2 * n)) q ∙ store16-behind (2 * n) table (2 * e) x (omega (arith, r.inside));
      }

  no-reference : (kind ≡ 10 → ⊥) → is_kind t kinds.Reference e ≡ false
  unfolding is_kind
  no-reference k = ne_eqb (expr_at t e).kind 10 (λ p. k (kk ∙ p))

  a_reference : kind ≡ 10 → is_kind t kinds.Reference e ≡ true
  unfolding is_kind
  a_reference k = eq-eqb (expr_at t e).kind 10 (sym kk ∙ k)

  -- of what is no Reference
  pub enter-other : (kind ≡ 10 → ⊥) → {table' : List ℕ} → table' ≡ store16 table (2 * e) 65535
      → Traversed s (λ c. entering t (visit e c)) with 0 (spare_of t e) start (sheet table' working at)
  unfolding entering own_event mark_of
  enter-other k {table'} q =
      record {
        went = went_mark 65535 q refl;
        passed = λ c x w h. record {
          marked = subst (Marked t (visit e c ∷ x.visits) n) (sym q)
              (marked_more t (visit e c) x.visits n table 65535 r.inside r.table-room (omega arith) (rw plain) h.marked);
          logged = rw plain h.logged;
          number = rw plain h.number;
          few = rw plain (omega (arith, h.few, spare-small));
          low = (r.inside, h.low);
          once = (new_here h r.inside z, h.once);
        };
      }
    where
      plain : is_kind t kinds.Reference e ≡ false
      plain = no-reference k

  -- of a Reference, whose event is written too
  pub enter-reference : kind ≡ 10 → {table' working' : List ℕ} → table' ≡ store16 table (2 * e) (49152 + with) → working' ≡ store16 working (4 * at) e
      → Traversed s (λ c. entering t (visit e c)) with 0 (spare_of t e) start (sheet table' working' (at + 1))
  unfolding entering own_event mark_of spare_of Logged
  enter-reference k {table'} {working'} q p =
      record {
        went = went_mark (49152 + with) q (ap length p ∙ length-store16 working (4 * at) e);
        passed = λ c x w h. record {
          marked = subst (Marked t (visit e c ∷ x.visits) n) (sym q)
              (marked_more t (visit e c) x.visits n table (49152 + with) r.inside r.table-room (omega (arith, r.with_small))
              (rw is (with_entry_lem (with_of t c) ∙ ap (λ i. 49152 + i) (sym w))) h.marked);
          logged = rw is (event x h, subst (Logged x.events) (sym p) (logged-behind x.events working (4 * at) e (omega (arith, h.number)) h.logged));
          number = rw is (omega (arith, h.number));
          few = rw (is, apart t e is) (omega (arith, h.few));
          low = (r.inside, h.low);
          once = (new_here h r.inside z, h.once);
        };
      }
    where
      is : is_kind t kinds.Reference e ≡ true
      is = a_reference k

      event : (x : Trail) → Held t n 0 x start → half working' (2 * length x.events) ≡ e
      event x h =
          ap (λ w. half w (2 * length x.events)) p
          ∙ ap (λ i. half (store16 working (4 * at) e) (2 * i)) (sym h.number)
          ∙ subst (λ i. half (store16 working i e) (2 * at) ≡ e) twice
          (half-stored working (2 * (2 * at)) e (omega (arith, enter-few, r.working-room)) (omega (arith, r.inside, r.accepted.sized.exprs-few)))
        where
          twice : 2 * (2 * at) ≡ 4 * at
          twice = omega arith

-- The ways out of `end`.
module _ {e start at : ℕ} {ends : Bool} {working : List ℕ} where
  pub end_not : ends ≡ false → Ended ends e start working at working at
  unfolding ended
  end_not f = record { long = refl; logs = λ x n l room. rw f (n, l) }

  module _ (f : ends ≡ true) where
    pub end_nothing : at ≤ start → Ended ends e start working at working at
    unfolding ended
    end_nothing m = record { long = refl; logs = λ x n l room. rw (f, le-ltb start (length x.events) (omega (arith, m, n))) (n, l) }

    pub end_logged : start < at → e < 2 ^ 14 → start < 2 ^ 16 → {written working' : List ℕ} → written ≡ store16 working (4 * at) e → working' ≡ store16 written (4 * at + 2) start
        → Ended ends e start working at working' (at + 1)
    unfolding ended Logged
    end_logged m small short {written} {working'} p q =
        record {
          long = ap length q ∙ length-store16 written (4 * at + 2) start ∙ long;
          logs = λ x n l room. rw (f, lt-ltb start (length x.events) (omega (arith, m, n))) (
            omega (arith, n),
            (
              ap (λ i. half working' (2 * i)) (sym n) ∙ first (room f),
              ap (λ i. half working' (2 * i + 1)) (sym n) ∙ second (room f),
              subst (Logged x.events) (sym q)
                  (logged-behind x.events written (4 * at + 2) start (omega (arith, n))
                  (subst (Logged x.events) (sym p) (logged-behind x.events working (4 * at) e (omega (arith, n)) l))),
            ),
          );
        }
      where
        long : length written ≡ length working
        long = ap length p ∙ length-store16 working (4 * at) e

        place : 2 * (2 * at) ≡ 4 * at
        place = omega arith

        next : 2 * (2 * at + 1) ≡ 4 * at + 2
        next = omega arith

        first : 4 * (at + 1) ≤ length working → half working' (2 * at) ≡ e
        first room = rw (q, place) (half-below written (4 * at + 2) start (4 * at) (omega arith) ∙ rw p (half-stored working (4 * at) e (omega (arith, room)) (omega (arith, small))))

        second : 4 * (at + 1) ≤ length working → half working' (2 * at + 1) ≡ start
        second room = rw (q, next) (half-stored written (4 * at + 2) start (omega (arith, room, long)) (omega (arith, short)))

-- an end is logged where there is one to come
pub held-ended : {t : Tree} {n : ℕ} {z : Trail} {here : Sheet} {b : Bool} {e k : ℕ} {working' : List ℕ} {at' : ℕ} → Held t n 0 z here → Ended b e k here.working here.at working' at'
    → 4 * n ≤ length here.working → (b ≡ true → suc (length z.events) ≤ length z.visits) → Held t n 0 (ended b e k z) (sheet here.table working' at')
unfolding ended
held-ended {t} {n} {z} {here} {b} {e} {k} {working'} {at'} h d room more =
    record {
      marked = h.marked;
      logged = done.1;
      number = done.0;
      few = go b (ltb k (length z.events)) refl;
      low = h.low;
      once = h.once;
    }
  where
    done : (at' ≡ length (ended b e k z).events) × Logged (ended b e k z).events working'
    done = d.logs z h.number h.logged (λ f. omega (arith, room, h.number, more f, once-few n z.visits h.once h.low))

    go : (c f : Bool) → b ≡ c → length (cond {A = List Event} (c && f) (leaves e k ∷ z.events) z.events) + 0 ≤ length z.visits
    go true true q = omega (arith, more q)
    go true false q = omega (arith, h.few)
    go false f q = omega (arith, h.few)
