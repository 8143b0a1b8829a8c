-- A name given to what waits for it, in the chains and in the table.
use Rattle.std.specs.Prelude.{Option, Some, None}
use mathlib.Core.Path.{◌≡◌, refl, ap, sym, subst, ◌∙◌}
use mathlib.Core.Bool.{Bool, true, false, cond, ◌&&◌, ◌||◌}
use mathlib.Core.List.{List, [], ◌∷◌}
use Prim.Native.Nat.{ℕ, ◌+◌, ◌*◌, ◌≤◌, ◌<◌}
use native.Mathlib.Omega.{arith}
use lib.Dec.{eqb, leb, ltb}
use lib.ListN.{length, drop}
use borrow.Author.Tests.{eqb-true, eqb-false, lt-leb, leb-true, leb-false}
use Rattle.semantics.specs.Base.{first, only, or_else, All}
use Rattle.semantics.specs.Tree.{Tree}
use Rattle.semantics.specs.Scopes.{ScopeVisit}
use Rattle.semantics.specs.Resolution.{place_of}
use Rattle.lent.specs.Inside.Stores.{store16}
use Rattle.lent.proofs.BufferLaws.{length-store16}
use Rattle.lent.proofs.HalfLaws.{store16-behind}
use Rattle.resolve_laws.specs.Inside.Last.{entered, Once}
use Rattle.resolve_laws.specs.Inside.Settle.{Found, names, give, text_of}
use Rattle.resolve_laws.specs.Inside.Events.{give_each, give_if, from}
use Rattle.resolve_laws.specs.Inside.Waiting.{waiting, waits_at, waits}
use Rattle.resolve_laws.specs.Inside.Logged.{half}
use Rattle.semantics.proofs.BaseLaws.{and-false}
use Rattle.resolve_laws.proofs.LastLaws.{none_left, none_right}
use Rattle.resolve_laws.proofs.RoomLaws.{only-not}
use Rattle.resolve_laws.proofs.EventLaws.{from_cut, from_on, from-length}
use Rattle.resolve_settle.specs.Inside.Chains.{written}
use Rattle.resolve_settle.specs.Inside.Settling.{visits_in, found_at, Held, name_entry, place_entry, entry_for}
use Rattle.resolve_settle.proofs.HalfLaws.{half-same, half-other}

-- whether a chain from `start` on has an event of e
struck : List ℕ → ℕ → List ℕ → ℕ → Bool
struck w start [] e = false
struck w start (q ∷ qs) e = leb start q && (eqb (half w (2 * q)) e || struck w start qs e)

written-half : (w : List ℕ) (start x : ℕ) (qs table : List ℕ) (e : ℕ) → 2 * e + 1 < length table → x < 65536
    → half (written w start x qs table) e ≡ cond (struck w start qs e) x (half table e)
unfolding written struck
written-half w start x [] table e h small = refl
written-half w start x (q ∷ qs) table e h small =
    go (leb start q) (written-half w start x qs (store16 table (2 * half w (2 * q)) x) e (subst (λ n. 2 * e + 1 < n) (sym (length-store16 table (2 * half w (2 * q)) x)) h) small)
  where
    after : List ℕ
    after = store16 table (2 * half w (2 * q)) x

    same : (b : Bool) → cond b x x ≡ x
    same true = refl
    same false = refl

    one : (c b : Bool) → eqb (half w (2 * q)) e ≡ c → cond b x (half after e) ≡ cond (c || b) x (half table e)
    one true b r =
        ap (λ z. cond b x z) (ap (λ z. half (store16 table (2 * z) x) e) (eqb-true (half w (2 * q)) e r) ∙ half-same table e x h small) ∙ same b
    one false b r = ap (λ z. cond b x z) (half-other table e (half w (2 * q)) x (λ z. eqb-false (half w (2 * q)) e r (sym z)))

    go : (b : Bool) → half (written w start x qs (store16 table (2 * half w (2 * q)) x)) e ≡ cond (struck w start qs e) x (half (store16 table (2 * half w (2 * q)) x) e)
        → half (cond b (written w start x qs (store16 table (2 * half w (2 * q)) x)) table) e ≡ cond (b && (eqb (half w (2 * q)) e || struck w start qs e)) x (half table e)
    go false ih = refl
    go true ih = ih ∙ one (eqb (half w (2 * q)) e) (struck w start qs e) refl

pub length-written : (w : List ℕ) (start x : ℕ) (qs table : List ℕ) → length (written w start x qs table) ≡ length table
unfolding written
length-written w start x [] table = refl
length-written w start x (q ∷ qs) table = go (leb start q) (length-written w start x qs (store16 table (2 * half w (2 * q)) x))
  where
    go : (b : Bool) → length (written w start x qs (store16 table (2 * half w (2 * q)) x)) ≡ length (store16 table (2 * half w (2 * q)) x)
        → length (cond b (written w start x qs (store16 table (2 * half w (2 * q)) x)) table) ≡ length table
    go true ih = ih ∙ length-store16 table (2 * half w (2 * q)) x
    go false ih = refl

-- what stands behind the entries of n expressions is left, where all of the chain are among them
pub written_behind : (w : List ℕ) (start x : ℕ) (qs table : List ℕ) (n : ℕ) → All (λ q. half w (2 * q) < n) qs → drop (2 * n) (written w start x qs table) ≡ drop (2 * n) table
unfolding written
written_behind w start x [] table n a = refl
written_behind w start x (q ∷ qs) table n a = go (leb start q) (written_behind w start x qs (store16 table (2 * half w (2 * q)) x) n a.1)
  where
    go : (b : Bool) → drop (2 * n) (written w start x qs (store16 table (2 * half w (2 * q)) x)) ≡ drop (2 * n) (store16 table (2 * half w (2 * q)) x)
        → drop (2 * n) (cond b (written w start x qs (store16 table (2 * half w (2 * q)) x)) table) ≡ drop (2 * n) table
    go true ih = ih ∙ store16-behind (2 * n) table (2 * half w (2 * q)) x (omega (arith, a.0))
    go false ih = refl

-- whether e is a Reference that waits in class d, from place k on
unfoldable pub here : Option Found → ℕ → Bool
here None e = false
here (Some f) e = eqb f.visit.expr e

unfoldable pub hit : (ScopeVisit → ℕ) → ℕ → ℕ → List (Option Found) → ℕ → Bool
hit cls d k [] e = false
hit cls d k (y ∷ l) e = leb k (length l) && ((waits_at cls d y && here y e) || hit cls d k l e)

hit_none : (cls : ScopeVisit → ℕ) (d k : ℕ) (l : List (Option Found)) (e : ℕ) → length l ≤ k → hit cls d k l e ≡ false
unfolding hit
hit_none cls d k [] e h = refl
hit_none cls d k (y ∷ l) e h = rw (lt-leb k (length l) (omega arith))

held_tail : (y : Option Found) (l : List (Option Found)) (w : List ℕ) → Held (y ∷ l) w → Held l w
unfolding Held
held_tail None l w h = h
held_tail (Some f) l w h = h.1

held_here : (cls : ScopeVisit → ℕ) (d : ℕ) (y : Option Found) (l : List (Option Found)) (w : List ℕ) (e : ℕ) → Held (y ∷ l) w → waits_at cls d y ≡ true
    → eqb (half w (2 * length l)) e ≡ here y e
unfolding Held waits_at here
held_here cls d None l w e h q = absurd (let z : ◌≡◌ {A = ℕ} 0 1 = cc in omega (arith, z))
held_here cls d (Some f) l w e h q = ap (λ z. eqb z e) h.0

struck_hit : (cls : ScopeVisit → ℕ) (d k : ℕ) (l : List (Option Found)) (w : List ℕ) (e : ℕ) → Held l w → struck w k (waits cls d l) e ≡ hit cls d k l e
unfolding waits struck hit
struck_hit cls d k [] w e h = refl
struck_hit cls d k (y ∷ l) w e h = go (waits_at cls d y) refl (struck_hit cls d k l w e (held_tail y l w h))
  where
    cut : (b : Bool) → leb k (length l) ≡ b → hit cls d k l e ≡ (b && hit cls d k l e)
    cut true q = refl
    cut false q = hit_none cls d k l e (let z : length l < k = leb-false k (length l) q in omega (arith, z))

    go : (b : Bool) → waits_at cls d y ≡ b → struck w k (waits cls d l) e ≡ hit cls d k l e
        → struck w k (cond b (length l ∷ waits cls d l) (waits cls d l)) e ≡ (leb k (length l) && ((b && here y e) || hit cls d k l e))
    go true q ih = ap (λ z. leb k (length l) && (z || struck w k (waits cls d l) e)) (held_here cls d y l w e h q) ∙ ap (λ z. leb k (length l) && (here y e || z)) ih
    go false q ih = ih ∙ cut (leb k (length l)) refl

pub no_hit : (cls : ScopeVisit → ℕ) (d k : ℕ) (l : List (Option Found)) (w : List ℕ) (e : ℕ) → Held l w → waits cls d l ≡ [] → hit cls d k l e ≡ false
unfolding struck
no_hit cls d k l w e h q = sym (struck_hit cls d k l w e h) ∙ ap (λ qs. struck w k qs e) q

-- the entry of a Reference that waits in class d from place k on, and every other as it was
pub written_hit : (cls : ScopeVisit → ℕ) (d k x : ℕ) (l : List (Option Found)) (w table : List ℕ) (e : ℕ) → Held l w → 2 * e + 1 < length table → x < 65536
    → half (written w k x (waits cls d l) table) e ≡ cond (hit cls d k l e) x (half table e)
written_hit cls d k x l w table e h room small =
    written-half w k x (waits cls d l) table e room small ∙ ap (λ b. cond b x (half table e)) (struck_hit cls d k l w e h)

not-only : {A : Type 0} (b : Bool) (a : A) (o : Option A) → or_else (only b a) o ≡ None → b ≡ false
not-only b a o h = only-not b a (none_left (only b a) o h)

-- a Reference that was not entered does not wait
pub absent_tail : (e : ℕ) (v : ScopeVisit) (vs : List ScopeVisit) → entered e (v ∷ vs) ≡ None → (eqb v.expr e ≡ false) × (entered e vs ≡ None)
unfolding entered first
absent_tail e v vs h = (go (eqb v.expr e) h, or-none (eqb v.expr e) h)
  where
    go : (b : Bool) → or_else (only b v) (first (λ w. eqb w.expr e) vs) ≡ None → b ≡ false
    go b h = not-only b v (first (λ w. eqb w.expr e) vs) h

    or-none : (b : Bool) → or_else (only b v) (first (λ w. eqb w.expr e) vs) ≡ None → first (λ w. eqb w.expr e) vs ≡ None
    or-none b h = none_right (only b v) (first (λ w. eqb w.expr e) vs) h

pub hit_absent : (cls : ScopeVisit → ℕ) (d k : ℕ) (l : List (Option Found)) (e : ℕ) → entered e (visits_in l) ≡ None → hit cls d k l e ≡ false
unfolding hit visits_in waits_at here
hit_absent cls d k [] e h = refl
hit_absent cls d k (None ∷ l) e h = ap (λ z. leb k (length l) && z) (hit_absent cls d k l e h) ∙ and-false (leb k (length l))
hit_absent cls d k (Some f ∷ l) e h =
    ap (λ z. leb k (length l) && ((waiting cls d f.visit f.name && z) || hit cls d k l e)) (absent_tail e f.visit (visits_in l) h).0
    ∙ ap (λ z. leb k (length l) && (z || hit cls d k l e)) (and-false (waiting cls d f.visit f.name))
    ∙ ap (λ z. leb k (length l) && z) (hit_absent cls d k l e (absent_tail e f.visit (visits_in l) h).1)
    ∙ and-false (leb k (length l))

pub absent_found : (l : List (Option Found)) (e : ℕ) → entered e (visits_in l) ≡ None → found_at l e ≡ None
unfolding found_at visits_in
absent_found [] e h = refl
absent_found (None ∷ l) e h = absent_found l e h
absent_found (Some f ∷ l) e h =
    ap (λ z. cond z (Some f) (found_at l e)) (absent_tail e f.visit (visits_in l) h).0 ∙ absent_found l e (absent_tail e f.visit (visits_in l) h).1

-- giving names touches no visit
each-visit : (t : Tree) (ns : List ℕ) (f : Found) → (give_each t ns f).visit ≡ f.visit
unfolding give_each give
each-visit t [] f = refl
each-visit t (n ∷ ns) f = each-visit t ns f

visits_cons : (t : Tree) (ns : List ℕ) (y : Option Found) (l m : List (Option Found)) → visits_in l ≡ visits_in m → visits_in (give_if t ns y ∷ l) ≡ visits_in (y ∷ m)
unfolding visits_in give_if
visits_cons t ns None l m h = h
visits_cons t ns (Some f) l m h = ap (λ z. z ∷ visits_in l) (each-visit t ns f) ∙ ap (λ z. f.visit ∷ z) h

pub visits-from : (t : Tree) (ns : List ℕ) (k : ℕ) (l : List (Option Found)) → visits_in (from k (give_if t ns) l) ≡ visits_in l
unfolding from
visits-from t ns k [] = refl
visits-from t ns k (y ∷ l) = go (leb k (length l)) (visits-from t ns k l)
  where
    go : (b : Bool) → visits_in (from k (give_if t ns) l) ≡ visits_in l → visits_in (cond b (give_if t ns y ∷ from k (give_if t ns) l) (y ∷ l)) ≡ visits_in (y ∷ l)
    go true ih = visits_cons t ns y (from k (give_if t ns) l) l ih
    go false ih = refl

held_cons : (t : Tree) (ns : List ℕ) (y : Option Found) (l m : List (Option Found)) (w : List ℕ) → length l ≡ length m → Held l w → Held (y ∷ m) w → Held (give_if t ns y ∷ l) w
unfolding Held give_if
held_cons t ns None l m w e h g = h
held_cons t ns (Some f) l m w e h g = (ap (λ z. half w (2 * z)) e ∙ g.0 ∙ ap (λ v. v.expr) (sym (each-visit t ns f)), h)

pub held-from : (t : Tree) (ns : List ℕ) (k : ℕ) (l : List (Option Found)) (w : List ℕ) → Held l w → Held (from k (give_if t ns) l) w
unfolding from
held-from t ns k [] w h = h
held-from t ns k (y ∷ l) w h = go (leb k (length l)) (held-from t ns k l w (held_tail y l w h))
  where
    go : (b : Bool) → Held (from k (give_if t ns) l) w → Held (cond b (give_if t ns y ∷ from k (give_if t ns) l) (y ∷ l)) w
    go true ih = held_cons t ns y (from k (give_if t ns) l) l w (from-length k (give_if t ns) l) ih h
    go false ih = h

-- names given one after the other, the last first
give-nothing : (t : Tree) (y : Option Found) → give_if t [] y ≡ y
unfolding give_if give_each
give-nothing t None = refl
give-nothing t (Some f) = refl

give-more : (t : Tree) (n : ℕ) (ns : List ℕ) (y : Option Found) → give_if t (n ∷ []) (give_if t ns y) ≡ give_if t (n ∷ ns) y
unfolding give_if give_each
give-more t n ns None = refl
give-more t n ns (Some f) = refl

pub from_nothing : (t : Tree) (k : ℕ) (l : List (Option Found)) → from k (give_if t []) l ≡ l
unfolding from
from_nothing t k [] = refl
from_nothing t k (y ∷ l) = go (leb k (length l)) (from_nothing t k l)
  where
    go : (b : Bool) → from k (give_if t []) l ≡ l → cond b (give_if t [] y ∷ from k (give_if t []) l) (y ∷ l) ≡ y ∷ l
    go true ih = ap (λ z. give_if t [] y ∷ z) ih ∙ ap (λ z. z ∷ l) (give-nothing t y)
    go false ih = refl

pub from_more : (t : Tree) (n : ℕ) (ns : List ℕ) (k : ℕ) (l : List (Option Found)) → from k (give_if t (n ∷ [])) (from k (give_if t ns) l) ≡ from k (give_if t (n ∷ ns)) l
unfolding from
from_more t n ns k [] = refl
from_more t n ns k (y ∷ l) = go (leb k (length l)) refl (from_more t n ns k l)
  where
    go : (b : Bool) → leb k (length l) ≡ b → from k (give_if t (n ∷ [])) (from k (give_if t ns) l) ≡ from k (give_if t (n ∷ ns)) l
        → from k (give_if t (n ∷ [])) (cond b (give_if t ns y ∷ from k (give_if t ns) l) (y ∷ l)) ≡ cond b (give_if t (n ∷ ns) y ∷ from k (give_if t (n ∷ ns)) l) (y ∷ l)
    go true q ih =
        from_on (give_if t (n ∷ [])) (give_if t ns y) (from k (give_if t ns) l) k (subst (λ z. k ≤ z) (sym (from-length k (give_if t ns) l)) (leb-true k (length l) q))
        ∙ ap (λ z. z ∷ from k (give_if t (n ∷ [])) (from k (give_if t ns) l)) (give-more t n ns y)
        ∙ ap (λ z. give_if t (n ∷ ns) y ∷ z) ih
    go false q ih = from_cut (give_if t (n ∷ [])) y l k (leb-false k (length l) q)

one_entry : (cls : ScopeVisit → ℕ) (d n : ℕ) (v : ScopeVisit) (o : Option ℕ) (c : Bool) (b : ℕ) → c ≡ eqb (cls v) d
    → name_entry (or_else o (only c n)) b ≡ cond (waiting cls d v o) (16384 + n) (name_entry o b)
unfolding name_entry waiting or_else only
one_entry cls d n v (Some m) c b q = refl
one_entry cls d n v None true b q = ap (λ z. cond z (16384 + n) b) q
one_entry cls d n v None false b q = ap (λ z. cond z (16384 + n) b) q

apart_tail : (y : Option Found) (l : List (Option Found)) → Once (visits_in (y ∷ l)) → Once (visits_in l)
unfolding visits_in
apart_tail None l a = a
apart_tail (Some f) l a = a.1

-- the entries of the table after a name was given: what waits for it from place k on has it
give-entry : (t : Tree) (cls : ScopeVisit → ℕ) (n d : ℕ) (f : Found) (b : ℕ) → names t f.visit n ≡ eqb (cls f.visit) d
    → entry_for t cls 0 (Some (give_each t (n ∷ []) f)) b ≡ cond (waiting cls d f.visit f.name) (16384 + n) (entry_for t cls 0 (Some f) b)
unfolding entry_for give_each give
give-entry t cls n d f b classes = go f.name (names t f.visit n) classes
  where
    go : (o : Option ℕ) (c : Bool) → c ≡ eqb (cls f.visit) d
        → name_entry (or_else o (only c n)) (cond (ltb (cls f.visit) 0) (place_entry (place_of (text_of t f.visit)) b) b)
        ≡ cond (waiting cls d f.visit o) (16384 + n) (name_entry o (cond (ltb (cls f.visit) 0) (place_entry (place_of (text_of t f.visit)) b) b))
    go o c q = one_entry cls d n f.visit o c (cond (ltb (cls f.visit) 0) (place_entry (place_of (text_of t f.visit)) b) b) q

given_cons : (t : Tree) (cls : ScopeVisit → ℕ) (n d : ℕ) → ((w : ScopeVisit) → names t w n ≡ eqb (cls w) d)
    → (k : ℕ) (y : Option Found) (l m : List (Option Found)) (e b : ℕ) → Once (visits_in (y ∷ l))
    → entry_for t cls 0 (found_at m e) b ≡ cond (hit cls d k l e) (16384 + n) (entry_for t cls 0 (found_at l e) b)
    → entry_for t cls 0 (found_at (give_if t (n ∷ []) y ∷ m) e) b ≡ cond ((waits_at cls d y && here y e) || hit cls d k l e) (16384 + n) (entry_for t cls 0 (found_at (y ∷ l) e) b)
unfolding give_if found_at waits_at here visits_in
given_cons t cls n d classes k None l m e b a ih = ih
given_cons t cls n d classes k (Some f) l m e b a ih =
    ap (λ v. entry_for t cls 0 (cond (eqb v.expr e) (Some (give_each t (n ∷ []) f)) (found_at m e)) b) (each-visit t (n ∷ []) f)
    ∙ go (eqb f.visit.expr e) refl
  where
    one : (c : Bool) → waiting cls d f.visit f.name ≡ c
        → cond c (16384 + n) (entry_for t cls 0 (Some f) b) ≡ cond ((c && true) || false) (16384 + n) (entry_for t cls 0 (Some f) b)
    one true q = refl
    one false q = refl

    skip : (c : Bool) → cond (hit cls d k l e) (16384 + n) (entry_for t cls 0 (found_at l e) b)
        ≡ cond ((c && false) || hit cls d k l e) (16384 + n) (entry_for t cls 0 (found_at l e) b)
    skip true = refl
    skip false = refl

    absent : eqb f.visit.expr e ≡ true → hit cls d k l e ≡ false
    absent q = hit_absent cls d k l e (subst (λ z. entered z (visits_in l) ≡ None) (eqb-true f.visit.expr e q) a.0)

    go : (c : Bool) → eqb f.visit.expr e ≡ c
        → entry_for t cls 0 (cond c (Some (give_each t (n ∷ []) f)) (found_at m e)) b
        ≡ cond ((waiting cls d f.visit f.name && c) || hit cls d k l e) (16384 + n) (entry_for t cls 0 (cond c (Some f) (found_at l e)) b)
    go true q =
        give-entry t cls n d f b (classes f.visit) ∙ one (waiting cls d f.visit f.name) refl
        ∙ ap (λ z. cond ((waiting cls d f.visit f.name && true) || z) (16384 + n) (entry_for t cls 0 (Some f) b)) (sym (absent q))
    go false q = ih ∙ skip (waiting cls d f.visit f.name)

module _ (t : Tree) (cls : ScopeVisit → ℕ) (n d : ℕ) (classes : (w : ScopeVisit) → names t w n ≡ eqb (cls w) d) where
  pub given-entry : (k : ℕ) (l : List (Option Found)) (e b : ℕ) → Once (visits_in l)
      → entry_for t cls 0 (found_at (from k (give_if t (n ∷ [])) l) e) b ≡ cond (hit cls d k l e) (16384 + n) (entry_for t cls 0 (found_at l e) b)
  unfolding from hit
  given-entry k [] e b a = refl
  given-entry k (y ∷ l) e b a = go (leb k (length l)) (given-entry k l e b (apart_tail y l a))
    where
      go : (c : Bool) → entry_for t cls 0 (found_at (from k (give_if t (n ∷ [])) l) e) b ≡ cond (hit cls d k l e) (16384 + n) (entry_for t cls 0 (found_at l e) b)
          → entry_for t cls 0 (found_at (cond c (give_if t (n ∷ []) y ∷ from k (give_if t (n ∷ [])) l) (y ∷ l)) e) b
          ≡ cond (c && ((waits_at cls d y && here y e) || hit cls d k l e)) (16384 + n) (entry_for t cls 0 (found_at (y ∷ l) e) b)
      go true ih = given_cons t cls n d classes k y l (from k (give_if t (n ∷ [])) l) e b a ih
      go false ih = refl
