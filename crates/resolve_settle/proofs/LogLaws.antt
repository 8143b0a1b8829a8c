-- The events of the whole pass: what each is of, that no expression is twice among the References, and the events before a place.
use Rattle.std.specs.Prelude.{Option, Some, None}
use mathlib.Core.Path.{◌≡◌, refl, ap, sym, subst, ◌∙◌}
use mathlib.Core.Bool.{Bool, true, false, cond, ◌&&◌, ◌||◌}
use mathlib.Core.List.{List, [], ◌∷◌, ◌++◌, map}
use Prim.Native.Nat.{ℕ, zero, suc, ◌+◌, ◌-◌, ◌≤◌, ◌<◌}
use native.Mathlib.Omega.{arith}
use native.Mathlib.Decide.{dec_lt}
use lib.Dec.{eqb, ltb}
use lib.ListN.{length, get_or, drop, length-drop}
use lib.Seq.{drop-cons, drop-length}
use borrow.Author.Tests.{eqb-true, eqb-false}
use Rattle.semantics.specs.Codes.{kinds}
use Rattle.semantics.specs.Base.{first, keep, listed, only, or_else, All}
use Rattle.semantics.specs.Tree.{Tree, no_expr, expr_at, is_kind}
use Rattle.semantics.specs.Scopes.{ScopeVisit, defines, defined, inside, visiting}
use Rattle.semantics.proofs.BaseLaws.{true≢false}
use Rattle.semantics.proofs.ResolutionLaws.{past_end}
use Rattle.image_fields.specs.Image.{expr_count, decode}
use Rattle.image_fields.proofs.ImageLaws.{tree-exprs}
use Rattle.image.specs.Inside.Accepted.{Accepted}
use Rattle.resolve_defs.proofs.ScopeLaws.{undefined}
use Rattle.resolve_laws.specs.Inside.Last.{parts_of, entered, unless, enter_all, enter, entered_of, Once}
use Rattle.resolve_laws.specs.Inside.Settle.{Found, outs_of}
use Rattle.resolve_laws.specs.Inside.Events.{Event, refers, leaves, own_event, shut, log_all, logs, play, somes}
use Rattle.resolve_laws.specs.Inside.Logged.{closing, log_of, Logged}
use Rattle.resolve_laws.proofs.SettleLaws.{all_refs}
use Rattle.resolve_laws.proofs.EventLaws.{played}
use Rattle.resolve_laws.proofs.RoomLaws.{enter-once}
use Rattle.resolve_settle.specs.Inside.Settling.{visits_in, log_to}
use Rattle.resolve_settle.proofs.GiveLaws.{absent_tail, visits-from}

-- a Reference refers, and what can define names ends
unfoldable pub Right : Tree → Event → Type 0
Right t (refers v) = is_kind t kinds.Reference v.expr ≡ true
Right t (leaves e k) = closing t e ≡ true

module _ (t : Tree) where
  own-one : (v : ScopeVisit) (log : List Event) (b : Bool) → is_kind t kinds.Reference v.expr ≡ b → All (Right t) log → All (Right t) (cond b (refers v ∷ log) log)
  unfolding Right
  own-one v log true q a = (q, a)
  own-one v log false q a = a

  own_right : (v : ScopeVisit) (log : List Event) → All (Right t) log → All (Right t) (own_event t v log)
  unfolding own_event
  own_right v log a = own-one v log (is_kind t kinds.Reference v.expr) refl a

  shut_one : (e k : ℕ) (log : List Event) (b c : Bool) → closing t e ≡ b → All (Right t) log → All (Right t) (cond (b && c) (leaves e k ∷ log) log)
  unfolding Right
  shut_one e k log true true q a = (q, a)
  shut_one e k log true false q a = a
  shut_one e k log false c q a = a

  shut_right : (e k : ℕ) (log : List Event) → All (Right t) log → All (Right t) (shut (closing t) e k log)
  unfolding shut
  shut_right e k log a = shut_one e k log (closing t e) (ltb k (length log)) refl a

  all_right : (d : ℕ) → ((v : ScopeVisit) (acc : List ScopeVisit) (log : List Event) → All (Right t) log → All (Right t) (logs t (closing t) d v acc log))
      → (vs acc : List ScopeVisit) (log : List Event) → All (Right t) log → All (Right t) (log_all (logs t (closing t) d) (enter t d) vs acc log)
  unfolding log_all
  all_right d h [] acc log a = a
  all_right d h (v ∷ vs) acc log a = h v (enter_all (enter t d) vs acc) (log_all (logs t (closing t) d) (enter t d) vs acc log) (all_right d h vs acc log a)

  right : (d : ℕ) (v : ScopeVisit) (acc : List ScopeVisit) (log : List Event) → All (Right t) log → All (Right t) (logs t (closing t) d v acc log)
  unfolding logs unless
  right zero v acc log a = a
  right (suc d) v acc log a = go (right d) (entered v.expr acc)
    where
      go : ((c : ScopeVisit) (m : List ScopeVisit) (l : List Event) → All (Right t) l → All (Right t) (logs t (closing t) d c m l)) → (o : Option ScopeVisit)
          → All (Right t) (unless o
          (log_all (logs t (closing t) d) (enter t d) (visiting v.scope (parts_of t v.expr).0)
          (enter_all (enter t d) (visiting (inside t v.expr v.scope) (parts_of t v.expr).1) (v ∷ acc))
          (shut (closing t) v.expr (length (own_event t v log))
          (log_all (logs t (closing t) d) (enter t d) (visiting (inside t v.expr v.scope) (parts_of t v.expr).1) (v ∷ acc) (own_event t v log)))) log)
      go ih (Some x) = a
      go ih None =
          all_right d ih (visiting v.scope (parts_of t v.expr).0) (enter_all (enter t d) (visiting (inside t v.expr v.scope) (parts_of t v.expr).1) (v ∷ acc))
          (shut (closing t) v.expr (length (own_event t v log))
          (log_all (logs t (closing t) d) (enter t d) (visiting (inside t v.expr v.scope) (parts_of t v.expr).1) (v ∷ acc) (own_event t v log)))
          (shut_right v.expr (length (own_event t v log))
          (log_all (logs t (closing t) d) (enter t d) (visiting (inside t v.expr v.scope) (parts_of t v.expr).1) (v ∷ acc) (own_event t v log))
          (all_right d ih (visiting (inside t v.expr v.scope) (parts_of t v.expr).1) (v ∷ acc) (own_event t v log) (own_right v log a)))

  pub log_right : All (Right t) (log_of t)
  unfolding log_of
  log_right = right (suc t.entry) (record { expr = t.entry; scope = [] }) [] [] tt

-- an expression of a kind that is no Missing is there
kind_there : (t : Tree) (k e : ℕ) → is_kind t (suc k) e ≡ true → e < length t.exprs
unfolding is_kind
kind_there t k e h = elim (dec_lt e (length t.exprs)) [
  | yes l ↦ l
  | no l ↦ absurd (let z : no_expr.kind ≡ suc k = rw (past_end t e (omega (arith, l))) at (eqb-true (expr_at t e).kind (suc k) h) in omega (arith, z))
]

or_cases : {C : Type 0} (a b : Bool) → (a || b) ≡ true → (a ≡ true → C) → (b ≡ true → C) → C
or_cases true b h f g = f refl
or_cases false b h f g = g h

or-not : (a b : Bool) → (a || b) ≡ false → (a ≡ false) × (b ≡ false)
or-not true b h = absurd (true≢false refl h)
or-not false b h = (refl, h)

pub closing_there : (t : Tree) (e : ℕ) → closing t e ≡ true → e < length t.exprs
unfolding closing
closing_there t e h =
    or_cases (is_kind t 4 e) (is_kind t 5 e || is_kind t 8 e) h (kind_there t 3 e) (λ g. or_cases (is_kind t 5 e) (is_kind t 8 e) g (kind_there t 4 e) (kind_there t 7 e))

pub reference_there : (t : Tree) (e : ℕ) → is_kind t 10 e ≡ true → e < length t.exprs
reference_there t e h = kind_there t 9 e h

-- what can define names is no Reference
pub closing-other : (t : Tree) (e : ℕ) → closing t e ≡ true → is_kind t 10 e ≡ true → ⊥
unfolding closing is_kind
closing-other t e h g =
    or_cases (is_kind t 4 e) (is_kind t 5 e || is_kind t 8 e) h (λ q. differ 4 q (λ z. omega (arith, z)))
    (λ r. or_cases (is_kind t 5 e) (is_kind t 8 e) r (λ q. differ 5 q (λ z. omega (arith, z))) (λ q. differ 8 q (λ z. omega (arith, z))))
  where
    differ : (k : ℕ) → eqb (expr_at t e).kind k ≡ true → (k ≡ 10 → ⊥) → ⊥
    differ k q n = n (sym (eqb-true (expr_at t e).kind k q) ∙ eqb-true (expr_at t e).kind 10 g)

none_there : (t : Tree) (e : ℕ) → expr_at t e ≡ no_expr → defined t e ≡ []
unfolding defined keep
none_there t e q = ap (λ x. map (λ i. i.name) (keep (defines t) x.items)) q

-- what logs no end defines nothing
pub bare : (s : List ℕ) → Accepted s → (e : ℕ) → closing (decode s) e ≡ false → defined (decode s) e ≡ []
unfolding closing is_kind
bare s a e h = elim (dec_lt e (expr_count s)) [
  | yes l ↦ undefined s a e l (eqb-false (expr_at (decode s) e).kind 4 one.0) (eqb-false (expr_at (decode s) e).kind 5 two.0) (eqb-false (expr_at (decode s) e).kind 8 two.1)
  | no l ↦ beyond (past_end (decode s) e (omega (arith, l, tree-exprs s)))
]
  where
    one : (eqb (expr_at (decode s) e).kind 4 ≡ false) × ((eqb (expr_at (decode s) e).kind 5 || eqb (expr_at (decode s) e).kind 8) ≡ false)
    one = or-not (eqb (expr_at (decode s) e).kind 4) (eqb (expr_at (decode s) e).kind 5 || eqb (expr_at (decode s) e).kind 8) h

    two : (eqb (expr_at (decode s) e).kind 5 ≡ false) × (eqb (expr_at (decode s) e).kind 8 ≡ false)
    two = or-not (eqb (expr_at (decode s) e).kind 5) (eqb (expr_at (decode s) e).kind 8) one.1

    beyond : expr_at (decode s) e ≡ no_expr → defined (decode s) e ≡ []
    beyond q = none_there (decode s) e q

-- the visits of the References among some events
unfoldable pub visits_of : List Event → List ScopeVisit
visits_of [] = []
visits_of (refers v ∷ log) = v ∷ visits_of log
visits_of (leaves e k ∷ log) = visits_of log

pub visits_played : (t : Tree) (log : List Event) → visits_in (play t log) ≡ visits_of log
unfolding play visits_in visits_of
visits_played t [] = refl
visits_played t (refers v ∷ log) = ap (λ z. v ∷ z) (visits_played t log)
visits_played t (leaves e k ∷ log) = visits-from t (defined t e) k (play t log) ∙ visits_played t log

visits-somes : (l : List (Option Found)) → visits_in l ≡ map (λ f. f.visit) (somes l)
unfolding visits_in somes listed
visits-somes [] = refl
visits-somes (None ∷ l) = visits-somes l
visits-somes (Some f ∷ l) = ap (λ z. f.visit ∷ z) (visits-somes l)

-- no expression twice among those that pass a test
absent_one : (p : ScopeVisit → Bool) (e : ℕ) (v : ScopeVisit) (l : List ScopeVisit) (b : Bool) → eqb v.expr e ≡ false → entered e l ≡ None
    → entered e (listed (only b v) ++ l) ≡ None
unfolding listed only entered first or_else
absent_one p e v l true h g = ap (λ z. or_else (only z v) (first (λ w. eqb w.expr e) l)) h ∙ g
absent_one p e v l false h g = g

absent_keep : (p : ScopeVisit → Bool) (e : ℕ) (l : List ScopeVisit) → entered e l ≡ None → entered e (keep p l) ≡ None
unfolding keep
absent_keep p e [] h = h
absent_keep p e (v ∷ l) h = absent_one p e v (keep p l) (p v) (absent_tail e v l h).0 (absent_keep p e l (absent_tail e v l h).1)

apart-one : (v : ScopeVisit) (l : List ScopeVisit) (b : Bool) → entered v.expr l ≡ None → Once l → Once (listed (only b v) ++ l)
unfolding listed only
apart-one v l true h a = (h, a)
apart-one v l false h a = a

apart-keep : (p : ScopeVisit → Bool) (l : List ScopeVisit) → Once l → Once (keep p l)
unfolding keep
apart-keep p [] o = tt
apart-keep p (v ∷ l) o = apart-one v (keep p l) (p v) (absent_keep p v.expr l o.0) (apart-keep p l o.1)

pub log_played : (s : List ℕ) → Accepted s → somes (play (decode s) (log_of (decode s))) ≡ outs_of (decode s)
unfolding log_of
log_played s a = played (decode s) (closing (decode s)) (bare s a)

log_visits : (s : List ℕ) → Accepted s → keep (λ v. is_kind (decode s) kinds.Reference v.expr) (entered_of (decode s)) ≡ visits_of (log_of (decode s))
unfolding outs_of
log_visits s a =
    all_refs (decode s)
    ∙ ap (map (λ f. f.visit)) (sym (log_played s a))
    ∙ sym (visits-somes (play (decode s) (log_of (decode s))))
    ∙ visits_played (decode s) (log_of (decode s))

entered-once : (t : Tree) → Once (entered_of t)
unfolding entered_of
entered-once t = enter-once t (suc t.entry) (record { expr = t.entry; scope = [] }) [] tt

pub log_apart : (s : List ℕ) → Accepted s → Once (visits_of (log_of (decode s)))
log_apart s a = subst Once (log_visits s a) (apart-keep (λ v. is_kind (decode s) kinds.Reference v.expr) (entered_of (decode s)) (entered-once (decode s)))

-- the References are expressions of the tree
pub visits-low : (t : Tree) (log : List Event) → All (Right t) log → All (λ v. v.expr < length t.exprs) (visits_of log)
unfolding visits_of Right
visits-low t [] a = tt
visits-low t (refers v ∷ log) a = (reference_there t v.expr a.0, visits-low t log a.1)
visits-low t (leaves e k ∷ log) a = visits-low t log a.1

-- the events before a place
right_drop : (t : Tree) (k : ℕ) (log : List Event) → All (Right t) log → All (Right t) (drop k log)
right_drop t zero log a = a
right_drop t (suc k) [] a = tt
right_drop t (suc k) (x ∷ log) a = right_drop t k log a.1

apart_tail : (x : Event) (log : List Event) → Once (visits_of (x ∷ log)) → Once (visits_of log)
unfolding visits_of
apart_tail (refers v) log a = a.1
apart_tail (leaves e k) log a = a

apart-drop : (k : ℕ) (log : List Event) → Once (visits_of log) → Once (visits_of (drop k log))
apart-drop zero log a = a
apart-drop (suc k) [] a = a
apart-drop (suc k) (x ∷ log) a = apart-drop k log (apart_tail x log a)

logged_tail : (x : Event) (log : List Event) (w : List ℕ) → Logged (x ∷ log) w → Logged log w
unfolding Logged
logged_tail (refers v) log w h = h.1
logged_tail (leaves e k) log w h = h.2

logged-drop : (k : ℕ) (log : List Event) (w : List ℕ) → Logged log w → Logged (drop k log) w
logged-drop zero log w h = h
logged-drop (suc k) [] w h = h
logged-drop (suc k) (x ∷ log) w h = logged-drop k log w (logged_tail x log w h)

pub log_long : (t : Tree) (p : ℕ) → p ≤ length (log_of t) → length (log_to t p) ≡ p
unfolding log_to
log_long t p h = omega (arith, length-drop (length (log_of t) - p) (log_of t))

nothing_left : {A : Type 0} (l : List A) → drop (length l - 0) l ≡ []
nothing_left l = let z : length l - 0 ≡ length l = omega arith in rw z (drop-length l)

pub log_none : (t : Tree) → log_to t 0 ≡ []
unfolding log_to
log_none t = nothing_left (log_of t)

pub log_all_lem : (t : Tree) → log_to t (length (log_of t)) ≡ log_of t
unfolding log_to
log_all_lem t = let z : length (log_of t) - length (log_of t) ≡ 0 = omega arith in rw z

-- what is known of the next event
pub record Coming (t : Tree) (p : ℕ) (w : List ℕ) (x : Event) : Type 0 where
  pub more : log_to t (p + 1) ≡ x ∷ log_to t p
  pub logged : Logged (x ∷ log_to t p) w
  pub right : All (Right t) (x ∷ log_to t p)
  pub apart : Once (visits_of (x ∷ log_to t p))

pub next_event : Tree → ℕ → Event
next_event t p = get_or (log_of t) (length (log_of t) - (p + 1)) (leaves 0 0)

pub coming : (s : List ℕ) → Accepted s → (p : ℕ) (w : List ℕ) → p < length (log_of (decode s)) → Logged (log_of (decode s)) w
    → Coming (decode s) p w (next_event (decode s) p)
unfolding log_to next_event
coming s a p w l h =
    record {
      more = one_more;
      logged = subst (λ z. Logged z w) one_more (logged-drop (length (log_of (decode s)) - (p + 1)) (log_of (decode s)) w h);
      right = subst (All (Right (decode s))) one_more (right_drop (decode s) (length (log_of (decode s)) - (p + 1)) (log_of (decode s)) (log_right (decode s)));
      apart = subst (λ z. Once (visits_of z)) one_more (apart-drop (length (log_of (decode s)) - (p + 1)) (log_of (decode s)) (log_apart s a));
    }
  where
    one_more : drop (length (log_of (decode s)) - (p + 1)) (log_of (decode s))
        ≡ get_or (log_of (decode s)) (length (log_of (decode s)) - (p + 1)) (leaves 0 0) ∷ drop (length (log_of (decode s)) - p) (log_of (decode s))
    one_more =
        let z : suc (length (log_of (decode s)) - (p + 1)) ≡ length (log_of (decode s)) - p = omega arith in
        drop-cons (log_of (decode s)) (length (log_of (decode s)) - (p + 1)) (leaves 0 0) (omega arith) ∙ rw z
