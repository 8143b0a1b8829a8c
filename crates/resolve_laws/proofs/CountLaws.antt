-- The tally is the number of visits, and of scopes made.
use mathlib.Core.Path.{◌≡◌, refl, sym, ap, subst, ◌∙◌}
use mathlib.Core.Bool.{Bool, true, false, cond}
use mathlib.Core.List.{List, [], ◌∷◌, ◌++◌, map}
use Prim.Native.Nat.{ℕ, zero, suc, ◌+◌, ◌*◌, ◌<◌, ◌≤◌, min}
use native.Mathlib.Nat.{add-mul, mul-add, zero-mul, mul-zero}
use native.Mathlib.Omega.{arith}
use native.Mathlib.Decide.{ℕ_discrete}
use lib.Dec.{eqb}
use lib.ListN.{length}
use borrow.Author.Tests.{ne_eqb, eq-eqb}
use Rattle.semantics.specs.Base.{each, keep, listed, only, sum, All}
use Rattle.semantics.specs.Tree.{Tree}
use Rattle.semantics.specs.Scopes.{ScopeVisit, makes, scope_children, scopes_from, scopes_of, resolve_steps, scopes_made}
use Rattle.semantics.specs.Order.{Ordered}
use Rattle.semantics.specs.Resolution.{own}
use Rattle.semantics.proofs.BaseLaws.{All_to, All-map, map_cong}
use Rattle.semantics.proofs.OrderLaws.{scopes_fall, ordered-runs}
use Rattle.resolve_laws.specs.Inside.Last.{below, reached}
use Rattle.resolve_laws.specs.Inside.Counts.{add, add_all, tally, once, weigh, making}
use Rattle.resolve_laws.proofs.LastLaws.{exprs, exprs_are, exprs-children}

-- the sum over the numbers below n
unfoldable pub dot : (ℕ → ℕ) → ℕ → (ℕ → ℕ) → ℕ
dot w zero p = 0
dot w (suc m) p = p m * w m + dot w m p

pub add_here : (p : ℕ → ℕ) (v c : ℕ) → add p v c c ≡ p c + v
unfolding add
add_here p v c = rw (eq-eqb c c refl)

pub add_there : (p : ℕ → ℕ) (v c x : ℕ) → (x ≡ c → ⊥) → add p v c x ≡ p x
unfolding add
add_there p v c x h = rw (ne_eqb x c h)

dot_past : (w p : ℕ → ℕ) (v c n : ℕ) → n ≤ c → dot w n (add p v c) ≡ dot w n p
unfolding dot
dot_past w p v c zero h = refl
dot_past w p v c (suc m) h =
    ap (λ z. z * w m + dot w m (add p v c)) (add_there p v c m (λ q. omega arith)) ∙ ap (λ z. p m * w m + z) (dot_past w p v c m (omega arith))

dot_add : (w p : ℕ → ℕ) (v c n : ℕ) → c < n → dot w n (add p v c) ≡ dot w n p + v * w c
unfolding dot
dot_add w p v c zero h = absurd (omega arith)
dot_add w p v c (suc m) h = elim (ℕ_discrete c m) [
  | yes q ↦ subst (λ z. add p v z m * w m + dot w m (add p v z) ≡ p m * w m + dot w m p + v * w z) (sym q)
      (ap (λ z. z * w m + dot w m (add p v m)) (add_here p v m)
      ∙ ap (λ z. z + dot w m (add p v m)) (add-mul (p m) v (w m))
      ∙ ap (λ z. p m * w m + v * w m + z) (dot_past w p v m m (omega arith))
      ∙ omega arith)
  | no q ↦ ap (λ z. z * w m + dot w m (add p v c)) (add_there p v c m (λ r. q (sym r)))
      ∙ ap (λ z. p m * w m + z) (dot_add w p v c m (omega (arith, q)))
      ∙ omega arith
]

pub dot_all : (w : ℕ → ℕ) (v n : ℕ) (cs : List ℕ) (p : ℕ → ℕ) → All (λ c. c < n) cs → dot w n (add_all p v cs) ≡ dot w n p + v * sum (map w cs)
unfolding add_all sum
dot_all w v n [] p h = rw (mul-zero v) (omega arith)
dot_all w v n (c ∷ cs) p h =
    dot_all w v n cs (add p v c) h.1
    ∙ ap (λ z. z + v * sum (map w cs)) (dot_add w p v c n h.0)
    ∙ rw (mul-add v (w c) (sum (map w cs))) (omega arith)

-- the tally is linear
pub tally_dot : (kids : ℕ → List ℕ) (g w : ℕ → ℕ) → ((e : ℕ) → All (λ c. c < e) (kids e)) → ((e : ℕ) → w e ≡ g e + sum (map w (kids e)))
    → (n : ℕ) (p : ℕ → ℕ) → tally kids g n p ≡ dot w n p
unfolding tally dot
tally_dot kids g w low is zero p = refl
tally_dot kids g w low is (suc e) p =
    ap (λ z. p e * g e + z) (tally_dot kids g w low is e (add_all p (p e) (kids e)) ∙ dot_all w (p e) e (kids e) p (low e))
    ∙ step
  where
    step : p e * g e + (dot w e p + p e * sum (map w (kids e))) ≡ p e * w e + dot w e p
    step =
        let z : p e * w e ≡ p e * g e + p e * sum (map w (kids e)) = ap (λ y. p e * y) (is e) ∙ mul-add (p e) (g e) (sum (map w (kids e))) in
        omega (arith, z)

pub weigh-++ : (g : ℕ → ℕ) (a b : List ℕ) → weigh g (a ++ b) ≡ weigh g a + weigh g b
unfolding weigh sum
weigh-++ g [] b = omega arith
weigh-++ g (x ∷ a) b = ap (λ z. g x + z) (weigh-++ g a b) ∙ omega arith

pub weigh_nil : (g : ℕ → ℕ) → weigh g [] ≡ 0
unfolding weigh sum
weigh_nil g = refl

reached-weigh : (t : Tree) (h : ℕ → ℕ) (e : ℕ) → weigh h (reached t (suc e) e) ≡ h e + weigh h (each (reached t e) (below t e))
unfolding reached weigh sum
reached-weigh t h e = refl

dot_zero : (w : ℕ → ℕ) (n : ℕ) → dot w n (λ x. 0) ≡ 0
unfolding dot
dot_zero w zero = refl
dot_zero w (suc n) = ap (λ z. 0 * w n + z) (dot_zero w n) ∙ omega (arith, zero-mul (w n))

once-add : (w : ℕ → ℕ) (e n : ℕ) → dot w n (once e) ≡ dot w n (add (λ x. 0) 1 e)
unfolding dot once add
once-add w e zero = refl
once-add w e (suc n) = ap (λ z. cond (eqb n e) 1 0 * w n + z) (once-add w e n)

pub dot_once : (w : ℕ → ℕ) (e n : ℕ) → e < n → dot w n (once e) ≡ w e
dot_once w e n h = once-add w e n ∙ dot_add w (λ x. 0) 1 e n h ∙ ap (λ z. z + 1 * w e) (dot_zero w n) ∙ omega arith

ones : (vs : List ScopeVisit) → weigh (λ e. 1) (exprs vs) ≡ length vs
unfolding weigh sum exprs
ones [] = refl
ones (v ∷ vs) = ap (λ z. 1 + z) (ones vs) ∙ omega arith

listed-length : (b : Bool) (v : ScopeVisit) (l : List ScopeVisit) → cond b 1 0 + length l ≡ length (listed (only b v) ++ l)
unfolding listed only
listed-length true v l = omega arith
listed-length false v l = omega arith

makers : (t : Tree) (vs : List ScopeVisit) → weigh (making t) (exprs vs) ≡ length (keep (λ v. makes t v.expr) vs)
unfolding weigh sum exprs making keep
makers t [] = refl
makers t (v ∷ vs) = ap (λ z. cond (makes t v.expr) 1 0 + z) (makers t vs) ∙ go (makes t v.expr)
  where
    go : (b : Bool) → cond b 1 0 + length (keep (λ v. makes t v.expr) vs) ≡ length (listed (only b v) ++ keep (λ v. makes t v.expr) vs)
    go b = listed-length b v (keep (λ v. makes t v.expr) vs)

pub weigh-each : (g : ℕ → ℕ) (f : ℕ → List ℕ) (l : List ℕ) → weigh g (each f l) ≡ sum (map (λ c. weigh g (f c)) l)
unfolding each sum
weigh-each g f [] = weigh_nil g
weigh-each g f (x ∷ l) = weigh-++ g (f x) (each f l) ∙ ap (λ z. weigh g (f x) + z) (weigh-each g f l)

module _ (t : Tree) (ordered : Ordered t) where
  pub low : (e : ℕ) → All (λ c. c < e) (below t e)
  unfolding exprs
  low e = subst (All (λ c. c < e)) (exprs-children t e []) (All-map (λ c. c < e) (λ v. v.expr) (scope_children t e []) (scopes_fall t ordered e []))

  reached-any : (d c : ℕ) → c < d → reached t d c ≡ reached t (suc c) c
  unfolding scopes_from
  reached-any d c h =
      sym (exprs_are t d (record { expr = c; scope = [] }))
      ∙ ap exprs ((ordered-runs t (own t) ordered).scopes_any d (record { expr = c; scope = [] }) h)
      ∙ exprs_are t (suc c) (record { expr = c; scope = [] })

  -- "steps e = 1 + the sum over the children", and the scopes made likewise
  abbrev pub weight : (ℕ → ℕ) → ℕ → ℕ
  weight g e = weigh g (reached t (suc e) e)

  pub weight_is : (g : ℕ → ℕ) (e : ℕ) → weight g e ≡ g e + sum (map (weight g) (below t e))
  weight_is g e =
      reached-weigh t g e
      ∙ ap (λ z. g e + z) (weigh-each g (reached t e) (below t e)
      ∙ ap sum (map_cong (λ c. weigh g (reached t e c)) (weight g) (below t e)
      (All_to (λ c. c < e) (λ c. weigh g (reached t e c) ≡ weight g c) (below t e) (λ c h. ap (weigh g) (reached-any e c h)) (low e))))

  -- THE LAW: the tally from the entry is the sum over all visits
  pub tally-is : (g : ℕ → ℕ) → tally (below t) g (suc t.entry) (once t.entry) ≡ weigh g (exprs (scopes_of t))
  unfolding scopes_of scopes_from
  tally-is g =
      tally_dot (below t) g (weight g) low (weight_is g) (suc t.entry) (once t.entry)
      ∙ dot_once (weight g) t.entry (suc t.entry) (omega arith)
      ∙ ap (weigh g) (sym (exprs_are t (suc t.entry) (record { expr = t.entry; scope = [] })))

  pub steps_are : tally (below t) (λ e. 1) (suc t.entry) (once t.entry) ≡ resolve_steps t
  unfolding resolve_steps
  steps_are = tally-is (λ e. 1) ∙ ones (scopes_of t)

  pub scopes_made_lem : 1 + tally (below t) (making t) (suc t.entry) (once t.entry) ≡ scopes_made t
  unfolding scopes_made
  scopes_made_lem = ap (λ z. 1 + z) (tally-is (making t) ∙ makers t (scopes_of t))

-- counts of 32 bits that stop: exact below the stop, and past it the run exceeds every budget
pub stop-add : (p v m : ℕ) → min (min p m + v) m ≡ min (p + v) m
stop-add p v m = omega arith

pub stop-same : (acc p m budget : ℕ) → 1 ≤ acc → budget ≤ m → acc + min p m ≤ budget → min p m ≡ p
stop-same acc p m budget a b h = omega arith

pub stop-over : (acc p m budget : ℕ) → budget < acc + min p m → budget < acc + p
stop-over acc p m budget h = omega arith
