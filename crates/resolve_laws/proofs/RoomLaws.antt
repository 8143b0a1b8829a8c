-- Each expression is entered once, so the events of a pass are no more than the expressions.
use Rattle.std.specs.Prelude.{Option, Some, None}
use mathlib.Core.Path.{◌≡◌, refl, sym, ap, subst, ◌∙◌}
use mathlib.Core.Bool.{Bool, true, false, cond, ◌&&◌}
use mathlib.Core.List.{List, [], ◌∷◌}
use Prim.Native.Nat.{ℕ, zero, suc, ◌+◌, ◌-◌, ◌<◌, ◌≤◌}
use native.Mathlib.Omega.{arith}
use native.Mathlib.Decide.{ℕ_discrete}
use lib.Dec.{eqb, ltb}
use lib.ListN.{length}
use borrow.Author.Tests.{eqb-true, eq-eqb}
use Rattle.semantics.specs.Codes.{kinds}
use Rattle.semantics.specs.Base.{first, only, or_else, All}
use Rattle.semantics.specs.Tree.{Tree, is_kind}
use Rattle.semantics.specs.Scopes.{ScopeVisit, inside, visiting, scope_children}
use Rattle.semantics.proofs.BaseLaws.{true≢false, clash}
use Rattle.resolve_laws.specs.Inside.Last.{parts_of, entered, unless, enter_all, enter, Once}
use Rattle.resolve_laws.specs.Inside.Events.{Event, refers, leaves, own_event, shut, log_all, logs}
use Rattle.resolve_laws.proofs.LastLaws.{none_left, none_right, split}
use Rattle.resolve_laws.proofs.SettleLaws.{enter_all-++}

once-all : (f : ScopeVisit → List ScopeVisit → List ScopeVisit) → ((v : ScopeVisit) (acc : List ScopeVisit) → Once acc → Once (f v acc))
    → (vs acc : List ScopeVisit) → Once acc → Once (enter_all f vs acc)
unfolding enter_all
once-all f h [] acc o = o
once-all f h (v ∷ vs) acc o = h v (enter_all f vs acc) (once-all f h vs acc o)

pub enter-once : (t : Tree) (d : ℕ) (v : ScopeVisit) (acc : List ScopeVisit) → Once acc → Once (enter t d v acc)
unfolding enter unless
enter-once t zero v acc o = o
enter-once t (suc d) v acc o = go (enter-once t d) (entered v.expr acc) refl
  where
    go : ((c : ScopeVisit) (a : List ScopeVisit) → Once a → Once (enter t d c a)) → (r : Option ScopeVisit) → entered v.expr acc ≡ r
        → Once (unless r (enter_all (enter t d) (scope_children t v.expr v.scope) (v ∷ acc)) acc)
    go ih (Some x) q = o
    go ih None q = once-all (enter t d) ih (scope_children t v.expr v.scope) (v ∷ acc) (q, o)

-- all but the visit of n
without : ℕ → List ScopeVisit → List ScopeVisit
without n [] = []
without n (v ∷ l) = cond (eqb v.expr n) l (v ∷ without n l)

pub only-not : {A : Type 0} (b : Bool) (x : A) → only b x ≡ None → b ≡ false
unfolding only
only-not true x h = absurd (clash (sym h))
only-not false x h = refl

not_here : (n : ℕ) (v : ScopeVisit) → eqb v.expr n ≡ false → v.expr < suc n → v.expr < n
not_here n v h l = elim (ℕ_discrete v.expr n) [ yes q ↦ absurd (true≢false (eq-eqb v.expr n q) h) | no q ↦ omega (arith, l, q) ]

cons_none : (e : ℕ) (v : ScopeVisit) (l : List ScopeVisit) → entered e (v ∷ l) ≡ None → (eqb v.expr e ≡ false) × (entered e l ≡ None)
unfolding entered first
cons_none e v l h = (only-not (eqb v.expr e) v (none_left (only (eqb v.expr e) v) (first (λ w. eqb w.expr e) l) h), none_right (only (eqb v.expr e) v) (first (λ w. eqb w.expr e) l) h)

none_cons : (e : ℕ) (v : ScopeVisit) (l : List ScopeVisit) → eqb v.expr e ≡ false → entered e l ≡ None → entered e (v ∷ l) ≡ None
unfolding entered first only or_else
none_cons e v l h k = rw h k

without_long : (n : ℕ) (l : List ScopeVisit) → length l ≤ suc (length (without n l))
unfolding without
without_long n [] = omega arith
without_long n (v ∷ l) = go (eqb v.expr n) (without_long n l)
  where
    go : (b : Bool) → length l ≤ suc (length (without n l)) → suc (length l) ≤ suc (length (cond {A = List ScopeVisit} b l (v ∷ without n l)))
    go true h = omega arith
    go false h = omega (arith, h)

without_none : (n e : ℕ) (l : List ScopeVisit) → entered e l ≡ None → entered e (without n l) ≡ None
unfolding without
without_none n e [] h = h
without_none n e (v ∷ l) h = go (eqb v.expr n) (cons_none e v l h) (without_none n e l (cons_none e v l h).1)
  where
    go : (b : Bool) → (eqb v.expr e ≡ false) × (entered e l ≡ None) → entered e (without n l) ≡ None → entered e (cond {A = List ScopeVisit} b l (v ∷ without n l)) ≡ None
    go true k r = k.1
    go false k r = none_cons e v (without n l) k.0 r

without_once : (n : ℕ) (l : List ScopeVisit) → Once l → Once (without n l)
unfolding without
without_once n [] o = tt
without_once n (v ∷ l) o = go (eqb v.expr n) (without_once n l o.1)
  where
    go : (b : Bool) → Once (without n l) → Once (cond {A = List ScopeVisit} b l (v ∷ without n l))
    go true r = o.1
    go false r = (without_none n v.expr l o.0, r)

rest-low : (n : ℕ) (l : List ScopeVisit) → entered n l ≡ None → All (λ v. v.expr < suc n) l → All (λ v. v.expr < n) l
rest-low n [] h a = tt
rest-low n (v ∷ l) h a = (not_here n v (cons_none n v l h).0 a.0, rest-low n l (cons_none n v l h).1 a.1)

without_low : (n : ℕ) (l : List ScopeVisit) → Once l → All (λ v. v.expr < suc n) l → All (λ v. v.expr < n) (without n l)
unfolding without
without_low n [] o a = tt
without_low n (v ∷ l) o a = go (eqb v.expr n) refl (without_low n l o.1 a.1)
  where
    go : (b : Bool) → eqb v.expr n ≡ b → All (λ v. v.expr < n) (without n l) → All (λ v. v.expr < n) (cond {A = List ScopeVisit} b l (v ∷ without n l))
    go true q r = rest-low n l (subst (λ z. entered z l ≡ None) (eqb-true v.expr n q) o.0) a.1
    go false q r = (not_here n v q a.0, r)

pub once-few : (n : ℕ) (l : List ScopeVisit) → Once l → All (λ v. v.expr < n) l → length l ≤ n
once-few zero [] o a = omega arith
once-few zero (v ∷ l) o a = absurd (let z : v.expr < 0 = a.0 in omega (arith, z))
once-few (suc n) l o a = omega (arith, without_long n l, once-few n (without n l) (without_once n l o) (without_low n l o a))

put_together : (own log shutted all entered in-acc in-log acc : ℕ) → (own ≤ in-log) × (in-log + suc acc ≤ in-acc + own) → (shutted ≤ all) × (all + in-acc ≤ entered + shutted)
    → ((more : ℕ) → in-log ≤ own + more → shutted ≤ suc log + more) → (log ≤ own) × (in-log ≤ shutted) → (log ≤ all) × (all + acc ≤ entered + log)
put_together own log shutted all entered in-acc in-log acc h k f g = (omega (arith, h.0, k.0, g.0, g.1), omega (arith, h.0, h.1, k.1, f (in-log - own) (omega arith)))

both-few : (log mid acc accm all acca : ℕ) → (log ≤ mid) × (mid + acc ≤ accm + log) → (mid ≤ all) × (all + accm ≤ acca + mid) → (log ≤ all) × (all + acc ≤ acca + log)
both-few log mid acc accm all acca h k = (omega (arith, h.0, k.0), omega (arith, h.1, k.1))

-- an event an expression entered, at most
module _ (t : Tree) (closes : ℕ → Bool) (apart : (e : ℕ) → is_kind t kinds.Reference e ≡ true → closes e ≡ false) where
  node-few : (v : ScopeVisit) (log log1 : List Event) (k : ℕ) (more : ℕ) → length log1 ≤ length (own_event t v log) + more
      → length (shut closes v.expr k log1) ≤ suc (length log) + more
  unfolding shut own_event
  node-few v log log1 k more h = go (is_kind t kinds.Reference v.expr) (closes v.expr) (ltb k (length log1)) refl refl h
    where
      go : (b c d : Bool) → is_kind t kinds.Reference v.expr ≡ b → closes v.expr ≡ c → length log1 ≤ length (cond {A = List Event} b (refers v ∷ log) log) + more
          → length (cond {A = List Event} (c && d) (leaves v.expr k ∷ log1) log1) ≤ suc (length log) + more
      go true true d p q r = absurd (true≢false q (apart v.expr p))
      go true false d p q r = omega (arith, r)
      go false true true p q r = omega (arith, r)
      go false true false p q r = omega (arith, r)
      go false false d p q r = omega (arith, r)

  own-long : (v : ScopeVisit) (log : List Event) → length log ≤ length (own_event t v log)
  unfolding own_event
  own-long v log = go (is_kind t kinds.Reference v.expr)
    where
      go : (b : Bool) → length log ≤ length (cond {A = List Event} b (refers v ∷ log) log)
      go true = omega arith
      go false = omega arith

  shut-long : (e k : ℕ) (log : List Event) → length log ≤ length (shut closes e k log)
  unfolding shut
  shut-long e k log = go (closes e && ltb k (length log))
    where
      go : (b : Bool) → length log ≤ length (cond {A = List Event} b (leaves e k ∷ log) log)
      go true = omega arith
      go false = omega arith

  abbrev Few : ℕ → Type 0
  Few d = (v : ScopeVisit) (acc : List ScopeVisit) (log : List Event) →
      (length log ≤ length (logs t closes d v acc log)) × (length (logs t closes d v acc log) + length acc ≤ length (enter t d v acc) + length log)

  all-few : (d : ℕ) → Few d → (vs acc : List ScopeVisit) (log : List Event)
      → (length log ≤ length (log_all (logs t closes d) (enter t d) vs acc log))
      × (length (log_all (logs t closes d) (enter t d) vs acc log) + length acc ≤ length (enter_all (enter t d) vs acc) + length log)
  unfolding log_all enter_all
  all-few d h [] acc log = (omega arith, omega arith)
  all-few d h (v ∷ vs) acc log = both-few (length log) (length (log_all (logs t closes d) (enter t d) vs acc log)) (length acc) (length (enter_all (enter t d) vs acc))
      (length (logs t closes d v (enter_all (enter t d) vs acc) (log_all (logs t closes d) (enter t d) vs acc log))) (length (enter t d v (enter_all (enter t d) vs acc)))
      (all-few d h vs acc log) (h v (enter_all (enter t d) vs acc) (log_all (logs t closes d) (enter t d) vs acc log))

  pub events-few : (d : ℕ) → Few d
  unfolding logs enter unless
  events-few zero v acc log = (omega arith, omega arith)
  events-few (suc d) v acc log = go (events-few d) (entered v.expr acc)
    where
      outer : List ScopeVisit
      outer = visiting v.scope (parts_of t v.expr).0

      inner : List ScopeVisit
      inner = visiting (inside t v.expr v.scope) (parts_of t v.expr).1

      log1 : List Event
      log1 = log_all (logs t closes d) (enter t d) inner (v ∷ acc) (own_event t v log)

      log2 : List Event
      log2 = shut closes v.expr (length (own_event t v log)) log1

      log3 : List Event
      log3 = log_all (logs t closes d) (enter t d) outer (enter_all (enter t d) inner (v ∷ acc)) log2

      go : Few d → (o : Option ScopeVisit)
          → (length log ≤ length (unless o (log_all (logs t closes d) (enter t d) (visiting v.scope (parts_of t v.expr).0)
          (enter_all (enter t d) (visiting (inside t v.expr v.scope) (parts_of t v.expr).1) (v ∷ acc))
          (shut closes v.expr (length (own_event t v log))
          (log_all (logs t closes d) (enter t d) (visiting (inside t v.expr v.scope) (parts_of t v.expr).1) (v ∷ acc) (own_event t v log)))) log))
          × (length (unless o (log_all (logs t closes d) (enter t d) (visiting v.scope (parts_of t v.expr).0)
          (enter_all (enter t d) (visiting (inside t v.expr v.scope) (parts_of t v.expr).1) (v ∷ acc))
          (shut closes v.expr (length (own_event t v log))
          (log_all (logs t closes d) (enter t d) (visiting (inside t v.expr v.scope) (parts_of t v.expr).1) (v ∷ acc) (own_event t v log)))) log) + length acc
          ≤ length (unless o (enter_all (enter t d) (scope_children t v.expr v.scope) (v ∷ acc)) acc) + length log)
      go ih (Some x) = (omega arith, omega arith)
      go ih None = subst (λ z. (length log ≤ length log3) × (length log3 + length acc ≤ length z + length log))
          (sym (ap (λ z. enter_all (enter t d) z (v ∷ acc)) (split t v.expr v.scope) ∙ enter_all-++ (enter t d) outer inner (v ∷ acc)))
          (put_together (length (own_event t v log)) (length log) (length log2) (length log3) (length (enter_all (enter t d) outer (enter_all (enter t d) inner (v ∷ acc))))
          (length (enter_all (enter t d) inner (v ∷ acc))) (length log1) (length acc)
          (all-few d ih inner (v ∷ acc) (own_event t v log))
          (all-few d ih outer (enter_all (enter t d) inner (v ∷ acc)) log2)
          (λ more. node-few v log log1 (length (own_event t v log)) more)
          (own-long v log, shut-long v.expr (length (own_event t v log)) log1))
