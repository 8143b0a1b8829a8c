-- The backward pass has the last visit of each expression, and no other.
use Rattle.std.specs.Prelude.{Option, Some, None}
use mathlib.Core.Path.{◌≡◌, refl, sym, ap, subst, ◌∙◌}
use mathlib.Core.Bool.{Bool, true, false}
use mathlib.Core.List.{List, [], ◌∷◌, ◌++◌, map, append-nil}
use Prim.Native.Nat.{ℕ, zero, suc, ◌<◌}
use native.Mathlib.Omega.{arith}
use lib.Dec.{eqb}
use borrow.Author.Tests.{eqb-true, ne_eqb}
use Rattle.semantics.specs.Base.{pick, each, first, final, only, or_else, All}
use Rattle.semantics.specs.Tree.{Tree, expr_at}
use Rattle.semantics.specs.Scopes.{Scope, ScopeVisit, inside, visiting, children, binding_children, scope_children, scope_visits, scopes_from, scopes_of}
use Rattle.semantics.specs.Order.{Ordered}
use Rattle.semantics.proofs.BaseLaws.{clash, either, only-some, All_to, All_each'}
use Rattle.semantics.specs.Resolution.{own}
use Rattle.semantics.proofs.OrderLaws.{scopes_fall, ordered-runs}
use Rattle.resolve_laws.specs.Inside.Last.{parts_of, below, reached, entered, last_of, unless, enter_all, enter, entered_of}

-- Words.
pub or_else_assoc : {A : Type 0} (a b c : Option A) → or_else (or_else a b) c ≡ or_else a (or_else b c)
unfolding or_else
or_else_assoc None b c = refl
or_else_assoc (Some x) b c = refl

pub or_else-none : {A : Type 0} (a : Option A) → or_else a None ≡ a
unfolding or_else
or_else-none None = refl
or_else-none (Some x) = refl

pub none_left : {A : Type 0} (a b : Option A) → or_else a b ≡ None → a ≡ None
unfolding or_else
none_left None b h = refl
none_left (Some x) b h = absurd (clash (sym h))

pub none_right : {A : Type 0} (a b : Option A) → or_else a b ≡ None → b ≡ None
unfolding or_else
none_right None b h = h
none_right (Some x) b h = absurd (clash (sym h))

pub final-++ : {A : Type 0} (p : A → Bool) (xs ys : List A) → final p (xs ++ ys) ≡ or_else (final p ys) (final p xs)
unfolding final
final-++ p [] ys = sym (or_else-none (final p ys))
final-++ p (x ∷ xs) ys = ap (λ z. or_else z (only (p x) x)) (final-++ p xs ys) ∙ or_else_assoc (final p ys) (final p xs) (only (p x) x)

pub pick-map : {A B : Type 0} (f : A → B) (n : ℕ) (l : List (ℕ × A)) (d : A) → f (pick n l d) ≡ pick n (map (λ x. (x.0, f x.1)) l) (f d)
unfolding pick
pick-map f n [] d = refl
pick-map {A} {B} f n (x ∷ l) d = go (eqb n x.0) (pick-map f n l d)
  where
    go : (b : Bool) → f (pick n l d) ≡ pick n (map (λ x. (x.0, f x.1)) l) (f d)
        → f (elim b as (λ z. A) [ true ↦ x.1 | false ↦ pick n l d ]) ≡ elim b as (λ z. B) [ true ↦ f x.1 | false ↦ pick n (map (λ x. (x.0, f x.1)) l) (f d) ]
    go true h = refl
    go false h = h

-- what a visit leads to, in two scopes
pub split : (t : Tree) (e : ℕ) (s : Scope) → scope_children t e s ≡ visiting s (parts_of t e).0 ++ visiting (inside t e s) (parts_of t e).1
unfolding scope_children parts_of binding_children visiting
split t e s =
    ap (pick (expr_at t e).kind _) (sym (append-nil (visiting s (children t e λ i. true))))
    ∙ sym (pick-map {A = List ℕ × List ℕ} (λ p. visiting s p.0 ++ visiting (inside t e s) p.1) (expr_at t e).kind _ (children t e (λ i. true), []))

-- the expressions do not depend on the scope
unfoldable pub exprs : List ScopeVisit → List ℕ
exprs vs = map (λ v. v.expr) vs

exprs-visiting : (s : Scope) (es : List ℕ) → exprs (visiting s es) ≡ es
unfolding exprs visiting
exprs-visiting s [] = refl
exprs-visiting s (e ∷ es) = ap (λ z. e ∷ z) (exprs-visiting s es)

exprs-++ : (a b : List ScopeVisit) → exprs (a ++ b) ≡ exprs a ++ exprs b
unfolding exprs
exprs-++ [] b = refl
exprs-++ (v ∷ a) b = ap (λ z. v.expr ∷ z) (exprs-++ a b)

pub exprs-children : (t : Tree) (e : ℕ) (s : Scope) → exprs (scope_children t e s) ≡ below t e
unfolding below
exprs-children t e s =
    ap exprs (split t e s)
    ∙ exprs-++ (visiting s (parts_of t e).0) (visiting (inside t e s) (parts_of t e).1)
    ∙ ap (λ z. z ++ exprs (visiting (inside t e s) (parts_of t e).1)) (exprs-visiting s (parts_of t e).0)
    ∙ ap (λ z. (parts_of t e).0 ++ z) (exprs-visiting (inside t e s) (parts_of t e).1)

exprs-each : (f : ScopeVisit → List ScopeVisit) (g : ℕ → List ℕ) (vs : List ScopeVisit) → ((v : ScopeVisit) → exprs (f v) ≡ g v.expr) →
    exprs (each f vs) ≡ each g (exprs vs)
unfolding exprs each
exprs-each f g [] h = refl
exprs-each f g (v ∷ vs) h = exprs-++ (f v) (each f vs) ∙ ap (λ z. z ++ exprs (each f vs)) (h v) ∙ ap (λ z. g v.expr ++ z) (exprs-each f g vs h)

pub exprs_are : (t : Tree) (depth : ℕ) (v : ScopeVisit) → exprs (scope_visits t depth v) ≡ reached t depth v.expr
unfolding scope_visits reached exprs
exprs_are t zero v = refl
exprs_are t (suc depth) v =
    ap (λ z. v.expr ∷ z)
    (exprs-each (scope_visits t depth) (reached t depth) (scope_children t v.expr v.scope) (exprs_are t depth)
    ∙ ap (each (reached t depth)) (exprs-children t v.expr v.scope))

-- nothing found
none_both : {A : Type 0} {a b : Option A} → a ≡ None → b ≡ None → or_else a b ≡ None
unfolding or_else
none_both {a = None} h k = k
none_both {a = Some x} h k = h

only_none : {A B : Type 0} (b : Bool) (x : A) (y : B) → only b x ≡ None → only b y ≡ None
unfolding only
only_none true x y h = absurd (clash (sym h))
only_none false x y h = refl

only-false : {A : Type 0} (x : A) → only false x ≡ None
unfolding only
only-false x = refl

final-none : {A : Type 0} (p : A → Bool) (l : List A) → All (λ a. p a ≡ false) l → final p l ≡ None
unfolding final
final-none p [] h = refl
final-none {A} p (x ∷ l) h = none_both (final-none p l h.1) (subst (λ b. only b x ≡ None) (sym h.0) (only-false x))

none_to : (e : ℕ) (vs : List ScopeVisit) → last_of e vs ≡ None → final (λ x. eqb x e) (exprs vs) ≡ None
unfolding last_of exprs final
none_to e [] h = refl
none_to e (v ∷ vs) h =
    none_both (none_to e vs (none_left (last_of e vs) (only (eqb v.expr e) v) h))
    (only_none (eqb v.expr e) v v.expr (none_right (last_of e vs) (only (eqb v.expr e) v) h))

none_of : (e : ℕ) (vs : List ScopeVisit) → final (λ x. eqb x e) (exprs vs) ≡ None → last_of e vs ≡ None
unfolding last_of exprs final
none_of e [] h = refl
none_of e (v ∷ vs) h =
    none_both (none_of e vs (none_left (final (λ x. eqb x e) (exprs vs)) (only (eqb v.expr e) v.expr) h))
    (only_none (eqb v.expr e) v.expr v (none_right (final (λ x. eqb x e) (exprs vs)) (only (eqb v.expr e) v.expr) h))

none-exprs : (e : ℕ) (vs ws : List ScopeVisit) → exprs vs ≡ exprs ws → last_of e vs ≡ None → last_of e ws ≡ None
none-exprs e vs ws h k = none_of e ws (subst (λ z. final (λ x. eqb x e) z ≡ None) h (none_to e vs k))

last-++ : (e : ℕ) (a b : List ScopeVisit) → last_of e (a ++ b) ≡ or_else (last_of e b) (last_of e a)
unfolding last_of
last-++ e a b = final-++ (λ v. eqb v.expr e) a b

last_nil : (e : ℕ) → last_of e [] ≡ None
unfolding last_of final
last_nil e = refl

last_cons : (e : ℕ) (v : ScopeVisit) (vs : List ScopeVisit) → last_of e (v ∷ vs) ≡ or_else (last_of e vs) (only (eqb v.expr e) v)
unfolding last_of final
last_cons e v vs = refl

entered_nil : (e : ℕ) → entered e [] ≡ None
unfolding entered first
entered_nil e = refl

entered_cons : (e : ℕ) (v : ScopeVisit) (vs : List ScopeVisit) → entered e (v ∷ vs) ≡ or_else (only (eqb v.expr e) v) (entered e vs)
unfolding entered first
entered_cons e v vs = refl

module _ (t : Tree) (ordered : Ordered t) where
  abbrev from : ScopeVisit → List ScopeVisit
  from v = scopes_from t v

  abbrev kids : ScopeVisit → List ScopeVisit
  kids v = scope_children t v.expr v.scope

  from_is : (v : ScopeVisit) → scopes_from t v ≡ v ∷ each (scopes_from t) (scope_children t v.expr v.scope)
  from_is v = (ordered-runs t (own t) ordered).scopes_are v

  last-from : (e : ℕ) (v : ScopeVisit) → last_of e (from v) ≡ or_else (last_of e (each from (kids v))) (only (eqb v.expr e) v)
  last-from e v = ap (last_of e) (from_is v) ∙ last_cons e v (each from (kids v))

  -- all below has smaller numbers
  from_low : (d : ℕ) (v : ScopeVisit) → v.expr < d → All (λ w. w.expr < d) (from v)
  from_low zero v h = absurd (omega arith)
  from_low (suc d) v h =
      subst (All (λ w. w.expr < suc d)) (sym (from_is v)) (
        h,
        All_each' (λ w. w.expr < suc d) (λ c. c.expr < v.expr) from (kids v) (scopes_fall t ordered v.expr v.scope)
            (λ c l. All_to (λ w. w.expr < d) (λ w. w.expr < suc d) (from c) (λ w k. omega arith) (from_low d c (omega arith))),
      )

  last-low : (v : ScopeVisit) → last_of v.expr (each from (kids v)) ≡ None
  unfolding last_of
  last-low v =
      final-none (λ w. eqb w.expr v.expr) (each from (kids v))
      (All_to (λ w. w.expr < v.expr) (λ w. eqb w.expr v.expr ≡ false) (each from (kids v)) (λ w l. ne_eqb w.expr v.expr (λ q. omega arith))
      (All_each' (λ w. w.expr < v.expr) (λ c. c.expr < v.expr) from (kids v) (scopes_fall t ordered v.expr v.scope) (λ c l. from_low v.expr c l)))

  from-same : (e : ℕ) (v w : ScopeVisit) → v.expr ≡ w.expr → last_of e (from v) ≡ None → last_of e (from w) ≡ None
  unfolding scopes_from
  from-same e v w h k =
      none-exprs e (from v) (from w)
      (exprs_are t (suc v.expr) v ∙ ap (λ z. reached t (suc z) z) h ∙ sym (exprs_are t (suc w.expr) w)) k

  -- what is visited from what is visited is visited
  abbrev Through : List ScopeVisit → Type 0
  Through l = (w : ScopeVisit) (x : ScopeVisit) (e : ℕ) → last_of w.expr l ≡ Some x → last_of e l ≡ None → last_of e (from w) ≡ None

  through_each : (vs : List ScopeVisit) → All (λ c. Through (from c)) vs → Through (each from vs)
  unfolding each
  through_each [] h w x e k n = absurd (clash (sym (last_nil w.expr) ∙ k))
  through_each (c ∷ cs) h w x e k n =
      either (last_of w.expr (each from cs)) (sym (last-++ w.expr (from c) (each from cs)) ∙ k)
      (λ g. through_each cs h.1 w x e g (none_left (last_of e (each from cs)) (last_of e (from c)) (sym (last-++ e (from c) (each from cs)) ∙ n)))
      (λ g. h.0 w x e g (none_right (last_of e (each from cs)) (last_of e (from c)) (sym (last-++ e (from c) (each from cs)) ∙ n)))

  through : (d : ℕ) (v : ScopeVisit) → v.expr < d → Through (from v)
  through zero v l w x e k n = absurd (omega arith)
  through (suc d) v l w x e k n =
      either (last_of w.expr (each from (kids v))) (sym (last-from w.expr v) ∙ k)
      (λ g. through_each (kids v)
      (All_to (λ c. c.expr < v.expr) (λ c. Through (from c)) (kids v) (λ c m. through d c (omega arith)) (scopes_fall t ordered v.expr v.scope))
      w x e g (none_left (last_of e (each from (kids v))) (only (eqb v.expr e) v) (sym (last-from e v) ∙ n)))
      (λ g. only-some (eqb v.expr w.expr) g (λ b q. from-same e v w (eqb-true v.expr w.expr b) n))

  -- below n, all that is visited from what was entered was entered
  abbrev Closed : ℕ → List ScopeVisit → Type 0
  Closed n acc = (w : ScopeVisit) (x : ScopeVisit) (e : ℕ) → w.expr < n → entered w.expr acc ≡ Some x → entered e acc ≡ None → last_of e (from w) ≡ None

  -- what a run of these visits adds: the last of each expression that was not there
  abbrev Adds : List ScopeVisit → List ScopeVisit → List ScopeVisit → Type 0
  Adds l acc after = (e : ℕ) → entered e after ≡ or_else (entered e acc) (last_of e l)

  closed_after : (n : ℕ) (l acc after : List ScopeVisit) → Adds l acc after → Through l → Closed n acc → Closed n after
  closed_after n l acc after adds thru closed w x e m h k =
      either (entered w.expr acc) (sym (adds w.expr) ∙ h)
      (λ g. closed w x e m g (none_left (entered e acc) (last_of e l) (sym (adds e) ∙ k)))
      (λ g. thru w x e g (none_right (entered e acc) (last_of e l) (sym (adds e) ∙ k)))

  enters-all : (f : ScopeVisit → List ScopeVisit → List ScopeVisit) (n : ℕ) (vs : List ScopeVisit)
      → ((v : ScopeVisit) → v.expr < n → (acc : List ScopeVisit) → Closed n acc → Adds (from v) acc (f v acc))
      → All (λ c. c.expr < n) vs → (acc : List ScopeVisit) → Closed n acc → Adds (each from vs) acc (enter_all f vs acc)
  unfolding enter_all each
  enters-all f n [] h a acc closed e = sym (or_else-none (entered e acc)) ∙ ap (or_else (entered e acc)) (sym (last_nil e))
  enters-all f n (c ∷ cs) h a acc closed e = go (enters-all f n cs h a.1 acc closed)
    where
      go : Adds (each from cs) acc (enter_all f cs acc) → entered e (f c (enter_all f cs acc)) ≡ or_else (entered e acc) (last_of e (from c ++ each from cs))
      go rest =
          h c a.0 (enter_all f cs acc) (closed_after n (each from cs) acc (enter_all f cs acc) rest (through_each cs (All_to (λ x. x.expr < n) (λ x. Through (from x)) cs (λ x m. through n x m) a.1)) closed) e
          ∙ ap (λ z. or_else z (last_of e (from c))) (rest e)
          ∙ or_else_assoc (entered e acc) (last_of e (each from cs)) (last_of e (from c))
          ∙ ap (or_else (entered e acc)) (sym (last-++ e (from c) (each from cs)))

  closed_inside : (n : ℕ) (v : ScopeVisit) (acc : List ScopeVisit) → v.expr < n → Closed n acc → Closed v.expr (v ∷ acc)
  closed_inside n v acc l closed w x e m h k =
      either (only (eqb v.expr w.expr) v) (sym (entered_cons w.expr v acc) ∙ h)
      (λ g. only-some (eqb v.expr w.expr) g (λ b q. absurd (let z : v.expr ≡ w.expr = eqb-true v.expr w.expr b in omega (arith, z))))
      (λ g. closed w x e (omega arith) g (none_right (only (eqb v.expr e) v) (entered e acc) (sym (entered_cons e v acc) ∙ k)))

  -- an expression and what lies below it, put together
  joined : (e : ℕ) (v : ScopeVisit) (acc : List ScopeVisit) → entered v.expr acc ≡ None →
      or_else (entered e (v ∷ acc)) (last_of e (each from (kids v))) ≡ or_else (entered e acc) (last_of e (from v))
  unfolding only or_else
  joined e v acc q =
      ap (λ z. or_else z (last_of e (each from (kids v)))) (entered_cons e v acc)
      ∙ go (eqb v.expr e) refl
      ∙ ap (or_else (entered e acc)) (sym (last-from e v))
    where
      go : (b : Bool) → eqb v.expr e ≡ b →
          or_else (or_else (only b v) (entered e acc)) (last_of e (each from (kids v))) ≡ or_else (entered e acc) (or_else (last_of e (each from (kids v))) (only b v))
      go true h =
          sym (ap (λ z. or_else z (or_else (last_of e (each from (kids v))) (Some v))) (subst (λ z. entered z acc ≡ None) (eqb-true v.expr e h) q)
          ∙ ap (λ z. or_else z (Some v)) (subst (λ z. last_of z (each from (kids v)) ≡ None) (eqb-true v.expr e h) (last-low v)))
      go false h = ap (or_else (entered e acc)) (sym (or_else-none (last_of e (each from (kids v)))))

  enters : (d : ℕ) (v : ScopeVisit) (acc : List ScopeVisit) (n : ℕ) → v.expr < d → v.expr < n → Closed n acc → Adds (from v) acc (enter t d v acc)
  unfolding enter unless or_else
  enters zero v acc n l m closed e = absurd (omega arith)
  enters (suc d) v acc n l m closed e = go (λ c k a cl. enters d c a v.expr (omega arith) k cl) (entered v.expr acc) refl
    where
      kept : (x : ScopeVisit) → entered v.expr acc ≡ Some x → (o : Option ScopeVisit) → entered e acc ≡ o → o ≡ or_else o (last_of e (from v))
      kept x q None r = sym (closed v x e m q r)
      kept x q (Some y) r = refl

      go : ((c : ScopeVisit) → c.expr < v.expr → (a : List ScopeVisit) → Closed v.expr a → Adds (from c) a (enter t d c a)) →
          (o : Option ScopeVisit) → entered v.expr acc ≡ o → entered e (unless o (enter_all (enter t d) (kids v) (v ∷ acc)) acc) ≡ or_else (entered e acc) (last_of e (from v))
      go ih (Some x) q = kept x q (entered e acc) refl
      go ih None q =
          enters-all (enter t d) v.expr (kids v) ih
          (scopes_fall t ordered v.expr v.scope) (v ∷ acc) (closed_inside n v acc m closed) e
          ∙ joined e v acc q

  -- THE LAW: what the backward pass has of an expression is its last visit
  pub last-visits : (e : ℕ) → entered e (entered_of t) ≡ final (λ v. eqb v.expr e) (scopes_of t)
  unfolding entered_of scopes_of last_of entered first or_else
  last-visits e = enters (suc t.entry) (record { expr = t.entry; scope = [] }) [] (suc t.entry) (omega arith) (omega arith) start e
    where
      start : Closed (suc t.entry) []
      start w x k m h n = absurd (clash h)
