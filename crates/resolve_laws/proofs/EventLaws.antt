-- The machine leaves at the places of the References what they are settled with.
use Rattle.std.specs.Prelude.{Option, Some, None}
use mathlib.Core.Path.{◌≡◌, refl, sym, ap, subst, ◌∙◌}
use mathlib.Core.Bool.{Bool, true, false, cond, ◌&&◌}
use mathlib.Core.List.{List, [], ◌∷◌, ◌++◌, map, append-nil, append_assoc}
use Prim.Native.Nat.{ℕ, zero, suc, ◌<◌, ◌≤◌}
use native.Mathlib.Omega.{arith}
use lib.Dec.{leb, ltb}
use lib.ListN.{length, length-append}
use borrow.Author.Tests.{le-leb, lt-leb, ltb-false}
use Rattle.semantics.specs.Codes.{kinds}
use Rattle.semantics.specs.Base.{listed, only}
use Rattle.semantics.specs.Tree.{Tree, is_kind}
use Rattle.semantics.specs.Scopes.{ScopeVisit, defined, inside, visiting}
use Rattle.resolve_laws.specs.Inside.Last.{parts_of, entered, unless, enter_all, enter}
use Rattle.resolve_laws.specs.Inside.Settle.{Found, give, give_all, own, outs_all, outs, outs_of}
use Rattle.resolve_laws.specs.Inside.Events.{Event, refers, leaves, own_event, shut, log_all, logs, give_each, give_if, from, play, somes}

map_id : {A : Type 0} (l : List A) → map (λ x. x) l ≡ l
map_id [] = refl
map_id (x ∷ l) = ap (λ z. x ∷ z) (map_id l)

map-map : {A : Type 0} (f g : A → A) (l : List A) → map f (map g l) ≡ map (λ x. f (g x)) l
map-map f g [] = refl
map-map f g (x ∷ l) = ap (λ z. f (g x) ∷ z) (map-map f g l)

give_nil : (t : Tree) (fs : List Found) → give_all t [] fs ≡ fs
unfolding give_all
give_nil t fs = refl

play_nil : (t : Tree) → play t [] ≡ []
unfolding play
play_nil t = refl

pub from_cut : {A : Type 0} (h : A → A) (x : A) (l : List A) (k : ℕ) → length l < k → from k h (x ∷ l) ≡ x ∷ l
unfolding from
from_cut h x l k m = rw (lt-leb k (length l) m)

pub from_on : {A : Type 0} (h : A → A) (x : A) (l : List A) (k : ℕ) → k ≤ length l → from k h (x ∷ l) ≡ h x ∷ from k h l
unfolding from
from_on h x l k m = rw (le-leb k (length l) m)

pub from-length : {A : Type 0} (k : ℕ) (h : A → A) (l : List A) → length (from k h l) ≡ length l
unfolding from
from-length k h [] = refl
from-length {A} k h (x ∷ l) = go (leb k (length l)) (from-length k h l)
  where
    go : (b : Bool) → length (from k h l) ≡ length l → length (cond {A = List A} b (h x ∷ from k h l) (x ∷ l)) ≡ suc (length l)
    go true q = ap suc q
    go false q = refl

long : {A : Type 0} (new old : List A) → length old ≤ length (new ++ old)
long new old = rw (length-append new old) (omega arith)

give_all-map : (t : Tree) (ns : List ℕ) (fs : List Found) → give_all t ns fs ≡ map (give_each t ns) fs
unfolding give_all give_each
give_all-map t [] fs = sym (map_id fs)
give_all-map t (n ∷ ns) fs = ap (map (give t n)) (give_all-map t ns fs) ∙ map-map (give t n) (give_each t ns) fs

from-none : {A : Type 0} (h : A → A) (l : List A) (k : ℕ) → length l ≤ k → from k h l ≡ l
unfolding from
from-none h [] k m = refl
from-none h (x ∷ l) k m = from_cut h x l k (omega arith)

from-++ : {A : Type 0} (h : A → A) (new old : List A) → from (length old) h (new ++ old) ≡ map h new ++ old
from-++ h [] old = from-none h old (length old) (omega arith)
from-++ h (x ∷ new) old = from_on h x (new ++ old) (length old) (long new old) ∙ ap (λ z. h x ∷ z) (from-++ h new old)

somes-++ : (a b : List (Option Found)) → somes (a ++ b) ≡ somes a ++ somes b
unfolding somes
somes-++ [] b = refl
somes-++ (x ∷ a) b = ap (λ z. listed x ++ z) (somes-++ a b) ∙ sym (append_assoc (listed x) (somes a) (somes b))

somes-give : (t : Tree) (ns : List ℕ) (l : List (Option Found)) → somes (map (give_if t ns) l) ≡ map (give_each t ns) (somes l)
unfolding somes give_if listed
somes-give t ns [] = refl
somes-give t ns (None ∷ l) = somes-give t ns l
somes-give t ns (Some f ∷ l) = ap (λ z. give_each t ns f ∷ z) (somes-give t ns l)

-- what a part of the pass puts on top of what was there
record Fresh (old after : List (Option Found)) (fs : List Found) : Type 0 where
  new : List (Option Found)
  is : after ≡ new ++ old
  has : somes new ≡ fs

fresh_nil : (old : List (Option Found)) → Fresh old old []
unfolding somes
fresh_nil old = record { new = []; is = refl; has = refl }

fresh_then : {old mid after : List (Option Found)} {fs gs : List Found} → Fresh old mid fs → Fresh mid after gs → Fresh old after (gs ++ fs)
fresh_then {old} {mid} {after} {fs} {gs} p q =
    record {
      new = q.new ++ p.new;
      is = q.is ∙ ap (λ z. q.new ++ z) p.is ∙ sym (append_assoc q.new p.new old);
      has = somes-++ q.new p.new ∙ ap (λ z. z ++ somes p.new) q.has ∙ ap (λ z. gs ++ z) p.has;
    }

fresh_leave : (t : Tree) (e : ℕ) (old mid : List (Option Found)) (fs : List Found) → Fresh old mid fs
    → Fresh old (None ∷ from (length old) (give_if t (defined t e)) mid) (give_all t (defined t e) fs)
unfolding somes listed
fresh_leave t e old mid fs p =
    record {
      new = None ∷ map (give_if t (defined t e)) p.new;
      is = ap (λ z. None ∷ from (length old) (give_if t (defined t e)) z) p.is ∙ ap (λ z. None ∷ z) (from-++ (give_if t (defined t e)) p.new old);
      has = somes-give t (defined t e) p.new ∙ ap (map (give_each t (defined t e))) p.has ∙ sym (give_all-map t (defined t e) fs);
    }

pub play-length : (t : Tree) (log : List Event) → length (play t log) ≡ length log
unfolding play
play-length t [] = refl
play-length t (refers v ∷ log) = ap suc (play-length t log)
play-length t (leaves e k ∷ log) = ap suc (from-length k (give_if t (defined t e)) (play t log) ∙ play-length t log)

own-one : (t : Tree) (v : ScopeVisit) (log : List Event) (b : Bool) →
    Fresh (play t log) (play t (cond b (refers v ∷ log) log)) (listed (only b (record { visit = v; name = None })))
unfolding play listed only somes
own-one t v log true = record { new = Some (record { visit = v; name = None }) ∷ []; is = refl; has = refl }
own-one t v log false = fresh_nil (play t log)

shut_one : (t : Tree) (e : ℕ) (log after : List Event) (fs : List Found) → Fresh (play t log) (play t after) fs
    → Fresh (play t log) (play t (leaves e (length log) ∷ after)) (give_all t (defined t e) fs)
unfolding play
shut_one t e log after fs p = subst (λ k. Fresh (play t log) (None ∷ from k (give_if t (defined t e)) (play t after)) (give_all t (defined t e) fs)) (play-length t log) (fresh_leave t e (play t log) (play t after) fs p)

-- where nothing was put on top there is nothing to give
nothing_new : (new old after : List (Option Found)) → after ≡ new ++ old → length after ≤ length old → new ≡ []
nothing_new [] old after q m = refl
nothing_new (x ∷ new) old after q m = absurd (omega (arith, long new old, ap length q, m))

give-none : (t : Tree) (ns : List ℕ) → give_all t ns [] ≡ []
unfolding give_all
give-none t [] = refl
give-none t (n ∷ ns) = ap (map (give t n)) (give-none t ns)

nothing-given : (t : Tree) (ns : List ℕ) (log after : List Event) (fs : List Found) → Fresh (play t log) (play t after) fs → length after ≤ length log
    → Fresh (play t log) (play t after) (give_all t ns fs)
unfolding somes
nothing-given t ns log after fs p m = subst (Fresh (play t log) (play t after)) (none_had ∙ sym (ap (give_all t ns) none_had ∙ give-none t ns)) p
  where
    none_had : fs ≡ []
    none_had =
        sym p.has ∙ ap somes (nothing_new p.new (play t log) (play t after) p.is (omega (arith, m, play-length t log, play-length t after)))

module _ (t : Tree) (closes : ℕ → Bool) (bare : (e : ℕ) → closes e ≡ false → defined t e ≡ []) where
  own_fresh : (v : ScopeVisit) (log : List Event) → Fresh (play t log) (play t (own_event t v log)) (own t v)
  unfolding own_event own
  own_fresh v log = go (is_kind t kinds.Reference v.expr)
    where
      go : (b : Bool) → Fresh (play t log) (play t (cond b (refers v ∷ log) log)) (listed (only b (record { visit = v; name = None })))
      go b = own-one t v log b

  shut_fresh : (e : ℕ) (log after : List Event) (fs : List Found) → Fresh (play t log) (play t after) fs
      → Fresh (play t log) (play t (shut closes e (length log) after)) (give_all t (defined t e) fs)
  unfolding shut
  shut_fresh e log after fs p = go (closes e) (ltb (length log) (length after)) refl refl
    where
      go : (b c : Bool) → closes e ≡ b → ltb (length log) (length after) ≡ c
          → Fresh (play t log) (play t (cond (b && c) (leaves e (length log) ∷ after) after)) (give_all t (defined t e) fs)
      go true true h k = shut_one t e log after fs p
      go true false h k = nothing-given t (defined t e) log after fs p (ltb-false (length log) (length after) k)
      go false c h k = subst (Fresh (play t log) (play t after)) (sym (ap (λ z. give_all t z fs) (bare e h) ∙ give_nil t fs)) p

  all_fresh : (d : ℕ) → ((v : ScopeVisit) (acc : List ScopeVisit) (log : List Event) → Fresh (play t log) (play t (logs t closes d v acc log)) (outs t d v acc))
      → (vs acc : List ScopeVisit) (log : List Event) → Fresh (play t log) (play t (log_all (logs t closes d) (enter t d) vs acc log)) (outs_all (outs t d) (enter t d) vs acc)
  unfolding log_all outs_all
  all_fresh d h [] acc log = fresh_nil (play t log)
  all_fresh d h (v ∷ vs) acc log =
      fresh_then (all_fresh d h vs acc log) (h v (enter_all (enter t d) vs acc) (log_all (logs t closes d) (enter t d) vs acc log))

  fresh : (d : ℕ) (v : ScopeVisit) (acc : List ScopeVisit) (log : List Event) → Fresh (play t log) (play t (logs t closes d v acc log)) (outs t d v acc)
  unfolding logs outs unless
  fresh zero v acc log = fresh_nil (play t log)
  fresh (suc d) v acc log = go (fresh d) (entered v.expr acc)
    where
      inner : List ScopeVisit
      inner = visiting (inside t v.expr v.scope) (parts_of t v.expr).1

      go : ((c : ScopeVisit) (a : List ScopeVisit) (l : List Event) → Fresh (play t l) (play t (logs t closes d c a l)) (outs t d c a)) → (o : Option ScopeVisit)
          → Fresh (play t log) (play t (unless o
          (log_all (logs t closes d) (enter t d) (visiting v.scope (parts_of t v.expr).0)
          (enter_all (enter t d) (visiting (inside t v.expr v.scope) (parts_of t v.expr).1) (v ∷ acc))
          (shut closes v.expr (length (own_event t v log))
          (log_all (logs t closes d) (enter t d) (visiting (inside t v.expr v.scope) (parts_of t v.expr).1) (v ∷ acc) (own_event t v log)))) log))
          (unless o
          (outs_all (outs t d) (enter t d) (visiting v.scope (parts_of t v.expr).0) (enter_all (enter t d) (visiting (inside t v.expr v.scope) (parts_of t v.expr).1) (v ∷ acc))
          ++ (give_all t (defined t v.expr) (outs_all (outs t d) (enter t d) (visiting (inside t v.expr v.scope) (parts_of t v.expr).1) (v ∷ acc)) ++ own t v)) [])
      go ih (Some x) = fresh_nil (play t log)
      go ih None =
          fresh_then
          (fresh_then (own_fresh v log)
          (shut_fresh v.expr (own_event t v log) (log_all (logs t closes d) (enter t d) inner (v ∷ acc) (own_event t v log)) (outs_all (outs t d) (enter t d) inner (v ∷ acc))
          (all_fresh d ih inner (v ∷ acc) (own_event t v log))))
          (all_fresh d ih (visiting v.scope (parts_of t v.expr).0) (enter_all (enter t d) inner (v ∷ acc))
          (shut closes v.expr (length (own_event t v log)) (log_all (logs t closes d) (enter t d) inner (v ∷ acc) (own_event t v log))))

  -- THE LAW: the machine run on the events of the whole pass has the settled References
  pub played : somes (play t (logs t closes (suc t.entry) (record { expr = t.entry; scope = [] }) [] [])) ≡ outs_of t
  unfolding outs_of
  played = go (fresh (suc t.entry) (record { expr = t.entry; scope = [] }) [] [])
    where
      go : Fresh (play t []) (play t (logs t closes (suc t.entry) (record { expr = t.entry; scope = [] }) [] [])) (outs t (suc t.entry) (record { expr = t.entry; scope = [] }) [])
          → somes (play t (logs t closes (suc t.entry) (record { expr = t.entry; scope = [] }) [] [])) ≡ outs t (suc t.entry) (record { expr = t.entry; scope = [] }) []
      go p = ap somes (p.is ∙ ap (λ z. p.new ++ z) (play_nil t) ∙ append-nil p.new) ∙ p.has
