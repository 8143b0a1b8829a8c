-- The backward pass as a recursion without a bound on the depth: what was entered is passed over, else the visit, the inside, its end, the outside.
use Rattle.std.specs.Prelude.{Some, None}
use mathlib.Core.Path.{◌≡◌, refl, ap, sym, subst, ◌∙◌}
use mathlib.Core.Bool.{Bool, true, false}
use mathlib.Core.List.{List, [], ◌∷◌, ◌++◌}
use Prim.Native.Nat.{ℕ, zero, suc, ◌+◌, ◌≤◌, ◌<◌}
use native.Mathlib.Omega.{arith}
use lib.ListN.{length}
use borrow.Author.Tests.{eqb-true, le-ltb}
use Rattle.semantics.specs.Codes.{kinds}
use Rattle.semantics.specs.Base.{All}
use Rattle.semantics.specs.Tree.{Tree, expr_at, is_kind}
use Rattle.semantics.specs.Scopes.{Scope, ScopeVisit, inside, visiting, scope_children}
use Rattle.semantics.specs.Order.{Ordered}
use Rattle.semantics.proofs.BaseLaws.{All_to, All-left, All_right}
use Rattle.semantics.proofs.OrderLaws.{scopes_fall}
use Rattle.resolve_laws.specs.Inside.Last.{parts_of, entered, unless, enter_all, enter}
use Rattle.resolve_laws.specs.Inside.Events.{Event, own_event, shut, log_all, logs}
use Rattle.resolve_laws.specs.Inside.Logged.{closing}
use Rattle.resolve_laws.proofs.LastLaws.{split}
use Rattle.resolve_laws.proofs.RoomLaws.{events-few}
use Rattle.resolve_laws.proofs.SettleLaws.{enter_all-++}
use Rattle.resolve_events.specs.Inside.Pass.{Trail, pass, entering, pass_all, ended, pass_below}

abbrev trail : List ScopeVisit → List Event → Trail
trail vs es = record { visits = vs; events = es }

-- the same where each visit is the same
enter_all-same : (f g : ScopeVisit → List ScopeVisit → List ScopeVisit) (vs : List ScopeVisit) → All (λ v. (a : List ScopeVisit) → f v a ≡ g v a) vs → (acc : List ScopeVisit)
    → enter_all f vs acc ≡ enter_all g vs acc
unfolding enter_all
enter_all-same f g [] h acc = refl
enter_all-same f g (v ∷ vs) h acc = h.0 (enter_all f vs acc) ∙ ap (g v) (enter_all-same f g vs h.1 acc)

abbrev Logs : Type 0
Logs = ScopeVisit → List ScopeVisit → List Event → List Event

log_all-same : (p q : Logs) (f g : ScopeVisit → List ScopeVisit → List ScopeVisit) (vs : List ScopeVisit) → All (λ v. (a : List ScopeVisit) → f v a ≡ g v a) vs
    → All (λ v. (a : List ScopeVisit) (l : List Event) → p v a l ≡ q v a l) vs → (acc : List ScopeVisit) (log : List Event) → log_all p f vs acc log ≡ log_all q g vs acc log
unfolding log_all
log_all-same p q f g [] h k acc log = refl
log_all-same p q f g (v ∷ vs) h k acc log =
    k.0 (enter_all f vs acc) (log_all p f vs acc log)
    ∙ ap (λ a. q v a (log_all p f vs acc log)) (enter_all-same f g vs h.1 acc)
    ∙ ap (q v (enter_all g vs acc)) (log_all-same p q f g vs h.1 k.1 acc log)

module _ (t : Tree) (ordered : Ordered t) where
  -- the visits below one, in the two scopes, have smaller numbers
  outer_fall : (e : ℕ) (c : Scope) → All (λ v. v.expr < e) (visiting c (parts_of t e).0)
  outer_fall e c =
      All-left (λ v. v.expr < e) (visiting c (parts_of t e).0) (visiting (inside t e c) (parts_of t e).1)
      (subst (All (λ v. v.expr < e)) (split t e c) (scopes_fall t ordered e c))

  inner_fall : (e : ℕ) (c : Scope) → All (λ v. v.expr < e) (visiting (inside t e c) (parts_of t e).1)
  inner_fall e c =
      All_right (λ v. v.expr < e) (visiting c (parts_of t e).0) (visiting (inside t e c) (parts_of t e).1)
      (subst (All (λ v. v.expr < e)) (split t e c) (scopes_fall t ordered e c))

  -- any bound above the number gives the same
  enter_enough : (d b : ℕ) (v : ScopeVisit) (acc : List ScopeVisit) → v.expr < d → v.expr < b → enter t d v acc ≡ enter t b v acc
  unfolding enter
  enter_enough zero b v acc l m = absurd (omega arith)
  enter_enough (suc d) zero v acc l m = absurd (omega arith)
  enter_enough (suc d) (suc b) v acc l m =
      ap (λ z. unless (entered v.expr acc) z acc)
      (enter_all-same (enter t d) (enter t b) (scope_children t v.expr v.scope)
      (All_to (λ c. c.expr < v.expr) (λ c. (a : List ScopeVisit) → enter t d c a ≡ enter t b c a) (scope_children t v.expr v.scope)
      (λ c k a. enter_enough d b c a (omega arith) (omega arith)) (scopes_fall t ordered v.expr v.scope)) (v ∷ acc))

  logs_enough : (d b : ℕ) (v : ScopeVisit) (acc : List ScopeVisit) (log : List Event) → v.expr < d → v.expr < b
      → logs t (closing t) d v acc log ≡ logs t (closing t) b v acc log
  unfolding logs
  logs_enough zero b v acc log l m = absurd (omega arith)
  logs_enough (suc d) zero v acc log l m = absurd (omega arith)
  logs_enough (suc d) (suc b) v acc log l m =
      ap (λ z. unless (entered v.expr acc) z log)
      (log_all-same (logs t (closing t) d) (logs t (closing t) b) (enter t d) (enter t b) outer (enters outer out_falls) (logged (logs_enough d b) outer out_falls) (enter_all (enter t d) inner (v ∷ acc)) (closed d)
      ∙ ap (λ a. log_all (logs t (closing t) b) (enter t b) outer a (closed d)) (enter_all-same (enter t d) (enter t b) inner (enters inner in_falls) (v ∷ acc))
      ∙ ap (λ z. log_all (logs t (closing t) b) (enter t b) outer (enter_all (enter t b) inner (v ∷ acc)) (shut (closing t) v.expr (length (own_event t v log)) z))
      (log_all-same (logs t (closing t) d) (logs t (closing t) b) (enter t d) (enter t b) inner (enters inner in_falls) (logged (logs_enough d b) inner in_falls) (v ∷ acc) (own_event t v log)))
    where
      outer : List ScopeVisit
      outer = visiting v.scope (parts_of t v.expr).0

      inner : List ScopeVisit
      inner = visiting (inside t v.expr v.scope) (parts_of t v.expr).1

      out_falls : All (λ c. c.expr < v.expr) outer
      out_falls = outer_fall v.expr v.scope

      in_falls : All (λ c. c.expr < v.expr) inner
      in_falls = inner_fall v.expr v.scope

      closed : ℕ → List Event
      closed n = shut (closing t) v.expr (length (own_event t v log)) (log_all (logs t (closing t) n) (enter t n) inner (v ∷ acc) (own_event t v log))

      enters : (vs : List ScopeVisit) → All (λ c. c.expr < v.expr) vs → All (λ c. (a : List ScopeVisit) → enter t d c a ≡ enter t b c a) vs
      enters vs h = All_to (λ c. c.expr < v.expr) (λ c. (a : List ScopeVisit) → enter t d c a ≡ enter t b c a) vs (λ c k a. enter_enough d b c a (omega (arith, k)) (omega (arith, k))) h

      logged : ((c : ScopeVisit) (a : List ScopeVisit) (l : List Event) → c.expr < d → c.expr < b → logs t (closing t) d c a l ≡ logs t (closing t) b c a l)
          → (vs : List ScopeVisit) → All (λ c. c.expr < v.expr) vs → All (λ c. (a : List ScopeVisit) (l : List Event) → logs t (closing t) d c a l ≡ logs t (closing t) b c a l) vs
      logged ih vs h = All_to (λ c. c.expr < v.expr) (λ c. (a : List ScopeVisit) (l : List Event) → logs t (closing t) d c a l ≡ logs t (closing t) b c a l) vs
          (λ c k a es. ih c a es (omega (arith, k)) (omega (arith, k))) h

  -- visits from the last to the first, with a bound above them all
  pass_in : (d : ℕ) (v : ScopeVisit) (x : Trail) → v.expr < d → pass t v x ≡ trail (enter t d v x.visits) (logs t (closing t) d v x.visits x.events)
  unfolding pass
  pass_in d v x l =
      ap (λ a. trail a (logs t (closing t) (suc v.expr) v x.visits x.events)) (enter_enough (suc v.expr) d v x.visits (omega arith) l)
      ∙ ap (trail (enter t d v x.visits)) (logs_enough (suc v.expr) d v x.visits x.events (omega arith) l)

  pass_all_in : (d : ℕ) (vs : List ScopeVisit) (x : Trail) → All (λ v. v.expr < d) vs
      → pass_all t vs x ≡ trail (enter_all (enter t d) vs x.visits) (log_all (logs t (closing t) d) (enter t d) vs x.visits x.events)
  unfolding pass_all enter_all log_all
  pass_all_in d [] x h = refl
  pass_all_in d (v ∷ vs) x h = ap (pass t v) (pass_all_in d vs x h.1) ∙ pass_in d v _ h.0

  -- what was entered is passed over
  pub pass_again : (v : ScopeVisit) (x : Trail) (u : ScopeVisit) → entered v.expr x.visits ≡ Some u → pass t v x ≡ x
  unfolding pass enter logs unless
  pass_again v x u h = rw h

  pass-opened : (v : ScopeVisit) (x : Trail) → entered v.expr x.visits ≡ None → pass t v x ≡
      trail (enter_all (enter t v.expr) (scope_children t v.expr v.scope) (v ∷ x.visits))
      (log_all (logs t (closing t) v.expr) (enter t v.expr) (visiting v.scope (parts_of t v.expr).0)
      (enter_all (enter t v.expr) (visiting (inside t v.expr v.scope) (parts_of t v.expr).1) (v ∷ x.visits))
      (shut (closing t) v.expr (length (own_event t v x.events))
      (log_all (logs t (closing t) v.expr) (enter t v.expr) (visiting (inside t v.expr v.scope) (parts_of t v.expr).1) (v ∷ x.visits) (own_event t v x.events))))
  unfolding pass enter logs unless
  pass-opened v x h = rw h

  -- else it is entered, and all below it
  pub pass-first : (v : ScopeVisit) (x : Trail) → entered v.expr x.visits ≡ None → pass t v x ≡ pass_below t v.expr v.scope (entering t v x)
  unfolding pass_below entering ended shut
  pass-first v x h =
      pass-opened v x h
      ∙ ap (λ a. trail a log) (ap (λ z. enter_all (enter t v.expr) z (v ∷ x.visits)) (split t v.expr v.scope) ∙ enter_all-++ (enter t v.expr) outer inner (v ∷ x.visits))
      ∙ sym (pass_all_in v.expr outer _ (outer_fall v.expr v.scope))
      ∙ ap (λ z. pass_all t outer (ended (closing t v.expr) v.expr (length (own_event t v x.events)) z)) (sym (pass_all_in v.expr inner (entering t v x) (inner_fall v.expr v.scope)))
    where
      outer : List ScopeVisit
      outer = visiting v.scope (parts_of t v.expr).0

      inner : List ScopeVisit
      inner = visiting (inside t v.expr v.scope) (parts_of t v.expr).1

      log : List Event
      log =
          log_all (logs t (closing t) v.expr) (enter t v.expr) outer (enter_all (enter t v.expr) inner (v ∷ x.visits))
          (shut (closing t) v.expr (length (own_event t v x.events)) (log_all (logs t (closing t) v.expr) (enter t v.expr) inner (v ∷ x.visits) (own_event t v x.events)))

-- Visits and ends put together.
module _ (t : Tree) where
  pub pass_all-++ : (a b : List ScopeVisit) (x : Trail) → pass_all t (a ++ b) x ≡ pass_all t a (pass_all t b x)
  unfolding pass_all
  pass_all-++ [] b x = refl
  pass_all-++ (v ∷ a) b x = ap (pass t v) (pass_all-++ a b x)

  pub pass_all-one : (v : ScopeVisit) (x : Trail) → pass_all t (v ∷ []) x ≡ pass t v x
  unfolding pass_all
  pass_all-one v x = refl

  pub pass_all-none : (x : Trail) → pass_all t [] x ≡ x
  unfolding pass_all
  pass_all-none x = refl

  -- what defines names is no Reference
  pub apart : (e : ℕ) → is_kind t kinds.Reference e ≡ true → closing t e ≡ false
  unfolding closing is_kind
  apart e h = rw (eqb-true (expr_at t e).kind 10 h)

  -- an event for each expression entered, at most
  pub pass_all-few : (vs : List ScopeVisit) (x : Trail)
      → length (pass_all t vs x).events + length x.visits ≤ length (pass_all t vs x).visits + length x.events
  unfolding pass_all pass
  pass_all-few [] x = omega arith
  pass_all-few (v ∷ vs) x =
      omega (arith, pass_all-few vs x, (events-few t (closing t) apart (suc v.expr) v (pass_all t vs x).visits (pass_all t vs x).events).1)

pub ended-not : (e k : ℕ) (x : Trail) → ended false e k x ≡ x
unfolding ended
ended-not e k x = refl

pub ended-nothing : (b : Bool) (e : ℕ) (x : Trail) → ended b e (length x.events) x ≡ x
unfolding ended
ended-nothing false e x = refl
ended-nothing true e x = rw (le-ltb (length x.events) (length x.events) (omega arith))
