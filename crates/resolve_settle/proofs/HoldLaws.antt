-- The chains and the table hold the References of the events so far: a name is given, a Reference comes, the builtins of a class.
use Rattle.std.specs.Prelude.{Option, Some, None}
use mathlib.Core.Path.{◌≡◌, refl, ap, sym, subst, ◌∙◌}
use mathlib.Core.Bool.{Bool, true, false, cond, ◌&&◌, ◌||◌}
use mathlib.Core.List.{List, [], ◌∷◌, ◌++◌}
use Prim.Native.Nat.{ℕ, suc, ◌+◌, ◌*◌, ◌≤◌, ◌<◌}
use native.Mathlib.Omega.{arith}
use native.Mathlib.Decide.{ℕ_discrete, dec_lt}
use lib.Dec.{eqb, ltb}
use lib.ListN.{length, get_or, set, drop, length-set}
use lib.Seq.{get_or-set_same, get_or-set_other}
use borrow.Author.Tests.{eqb-true, eq-eqb, ne_eqb, le-leb, lt-leb, lt-ltb, le-ltb}
use Rattle.semantics.specs.Base.{keep, listed, only, All}
use Rattle.semantics.specs.Tree.{Tree}
use Rattle.semantics.specs.Scopes.{ScopeVisit}
use Rattle.semantics.specs.Resolution.{place_of}
use Rattle.lent.specs.Inside.Stores.{store16}
use Rattle.lent.proofs.BufferLaws.{length-store16}
use Rattle.resolve_laws.specs.Inside.Last.{entered, Once}
use Rattle.resolve_laws.specs.Inside.Settle.{Found, names, text_of}
use Rattle.resolve_laws.specs.Inside.Events.{give_if, from}
use Rattle.resolve_laws.specs.Inside.Waiting.{waiting, waits_at, waits}
use Rattle.resolve_laws.specs.Inside.Logged.{half}
use Rattle.resolve_laws.proofs.EventLaws.{from-length}
use Rattle.resolve_laws.proofs.WaitLaws.{own_cut, other-kept}
use Rattle.resolve_settle.specs.Inside.Chains.{Chain, Falls, written, behind, Chained, Unchained}
use Rattle.resolve_settle.specs.Inside.Settling.{visits_in, found_at, Held, name_entry, place_entry, entry_for, mark_in, Holding, Beside}
use Rattle.resolve_settle.proofs.HalfLaws.{half-same, half-other}
use Rattle.resolve_settle.proofs.ChainLaws.{head_low}
use Rattle.resolve_settle.proofs.GiveLaws.{here, hit, no_hit, written_hit, length-written, written_behind, visits-from, held-from, given-entry, hit_absent, absent_found}

-- what waits stands in falling places
falls_up : (n m : ℕ) (qs : List ℕ) → n ≤ m → Falls n qs → Falls m qs
unfolding Falls
falls_up n m [] h f = tt
falls_up n m (q ∷ qs) h f = (omega (arith, f.0), f.1)

waits_fall : (cls : ScopeVisit → ℕ) (c : ℕ) (l : List (Option Found)) → Falls (length l) (waits cls c l)
unfolding waits Falls
waits_fall cls c [] = tt
waits_fall cls c (y ∷ l) = go (waits_at cls c y) (waits_fall cls c l)
  where
    go : (b : Bool) → Falls (length l) (waits cls c l) → Falls (suc (length l)) (cond b (length l ∷ waits cls c l) (waits cls c l))
    go true f = (omega arith, f)
    go false f = falls_up (length l) (suc (length l)) (waits cls c l) (omega arith) f

-- what is behind a place in a falling chain is what is below it
behind-all : (n k : ℕ) (qs : List ℕ) → Falls n qs → n ≤ k → behind k qs ≡ qs
unfolding behind Falls
behind-all n k [] f h = refl
behind-all n k (q ∷ qs) f h = rw (lt-leb k q (omega (arith, f.0)))

behind-keep : (n k : ℕ) (qs : List ℕ) → Falls n qs → behind k qs ≡ keep (λ q. ltb q k) qs
unfolding behind keep listed only Falls
behind-keep n k [] f = refl
behind-keep n k (q ∷ qs) f = elim (dec_lt q k) [
  | yes h ↦ ap (λ b. cond b (behind k qs) (q ∷ qs)) (lt-leb k q h)
      ∙ ap (λ z. q ∷ z) (sym (behind-all q k qs f.1 (omega (arith, h))) ∙ behind-keep q k qs f.1)
      ∙ ap (λ b. listed (only b q) ++ keep (λ r. ltb r k) qs) (sym (lt-ltb q k h))
  | no h ↦ ap (λ b. cond b (behind k qs) (q ∷ qs)) (le-leb k q (omega (arith, h)))
      ∙ behind-keep q k qs f.1
      ∙ ap (λ b. listed (only b q) ++ keep (λ r. ltb r k) qs) (sym (le-ltb q k (omega (arith, h))))
]

-- the events of a chain are of expressions below n
waits-low : (cls : ScopeVisit → ℕ) (c n : ℕ) (l : List (Option Found)) (w : List ℕ) → Held l w → All (λ v. v.expr < n) (visits_in l) → All (λ q. half w (2 * q) < n) (waits cls c l)
unfolding waits Held visits_in waits_at
waits-low cls c n [] w h a = tt
waits-low cls c n (None ∷ l) w h a = waits-low cls c n l w h a
waits-low cls c n (Some f ∷ l) w h a = go (waiting cls c f.visit f.name) (waits-low cls c n l w h.1 a.1)
  where
    go : (b : Bool) → All (λ q. half w (2 * q) < n) (waits cls c l) → All (λ q. half w (2 * q) < n) (cond b (length l ∷ waits cls c l) (waits cls c l))
    go true r = (subst (λ z. z < n) (sym h.0) a.0, r)
    go false r = r

module _ {t : Tree} {cls : ScopeVisit → ℕ} {b : ℕ} {l : List (Option Found)} {heads working table : List ℕ} (h : Holding t cls b l heads working table) where
  -- the chain of a class
  pub chained : {c head : ℕ} → c < length t.texts → head ≡ get_or heads c 0 → Chained working head
  chained {c} {head} m e =
      record {
        places = waits cls c l;
        many = length l;
        chain = subst (λ z. Chain working z (waits cls c l)) (sym e) (h.chains c m);
        falls = waits_fall cls c l;
        room = h.events_fit;
      }

  -- an entry written for a class
  module _ {c head start x r : ℕ} {after : List ℕ} (m : c < length t.texts) (e : head ≡ get_or heads c 0) (u : Unchained working head start x table after r) where
    its_chain : Chain working head (waits cls c l)
    its_chain = subst (λ z. Chain working z (waits cls c l)) (sym e) (h.chains c m)

    after_is : after ≡ written working start x (waits cls c l) table
    after_is = u.entries (waits cls c l) its_chain

    after_long : length after ≡ length table
    after_long = ap length after_is ∙ length-written working start x (waits cls c l) table

    pub chain-beside : Beside (length t.exprs) table after
    chain-beside =
        record {
          kept = after_long;
          behind = ap (drop (2 * length t.exprs)) after_is
              ∙ written_behind working start x (waits cls c l) table (length t.exprs) (waits-low cls c (length t.exprs) l working h.held h.low);
        }

    after_hit : x < 65536 → (i : ℕ) → i < length t.exprs → half after i ≡ cond (hit cls c start l i) x (half table i)
    after_hit small i g = ap (λ z. half z i) after_is ∙ written_hit cls c start x l working table i h.held (omega (arith, h.table_fits)) small

    left_is : Chain working r (keep (λ q. ltb q start) (waits cls c l))
    left_is = subst (Chain working r) (behind-keep (length l) start (waits cls c l) (waits_fall cls c l)) (u.rest (waits cls c l) its_chain)

    falls-keep : (k n : ℕ) (qs : List ℕ) → Falls n qs → Falls n (keep (λ q. ltb q k) qs)
    unfolding Falls keep listed only
    falls-keep k n [] f = tt
    falls-keep k n (q ∷ qs) f = go (ltb q k) (falls-keep k q qs f.1)
      where
        go : (z : Bool) → Falls q (keep (λ r. ltb r k) qs) → Falls n (listed (only z q) ++ keep (λ r. ltb r k) qs)
        go true g = (f.0, g)
        go false g = falls_up q n (keep (λ r. ltb r k) qs) (omega (arith, f.0)) g

    -- the new head fits into 16 bits
    pub left-small : r < 65536
    left-small = omega (arith, h.few, head_low working r (length l) (keep (λ q. ltb q start) (waits cls c l)) left_is (falls-keep start (length l) (waits cls c l) (waits_fall cls c l)))

module _ {t : Tree} {cls : ScopeVisit → ℕ} {l : List (Option Found)} {heads working table : List ℕ} (h : Holding t cls 0 l heads working table)
    {n c head start x r : ℕ} {after : List ℕ} (m : c < length t.texts) (e : head ≡ get_or heads c 0) (classes : (w : ScopeVisit) → names t w n ≡ eqb (cls w) c)
    (y : x ≡ 16384 + n) (small : n < 16384) (u : Unchained working head start x table after r) where
  -- a name given from a place on
  pub holding-given : Holding t cls 0 (from start (give_if t (n ∷ [])) l) (set heads c r) working after
  holding-given =
      record {
        held = held-from t (n ∷ []) start l working h.held;
        apart = subst Once (sym (visits-from t (n ∷ []) start l)) h.apart;
        low = subst (All (λ v. v.expr < length t.exprs)) (sym (visits-from t (n ∷ []) start l)) h.low;
        chains = λ d g. elim (ℕ_discrete d c) [
          | yes q ↦ subst (λ z. Chain working (get_or (set heads c r) z 0) (waits cls z (from start (give_if t (n ∷ [])) l))) (sym q) own
          | no q ↦ subst (λ z. Chain working z (waits cls d (from start (give_if t (n ∷ [])) l))) (sym (get_or-set_other heads c d r 0 q))
              (subst (Chain working (get_or heads d 0)) (sym (other-kept t cls n c classes d q start l)) (h.chains d g))
        ];
        entries = λ i g.
            after_hit h m e u (omega arith) i g
            ∙ ap (λ z. cond (hit cls c start l i) z (half table i)) y
            ∙ ap (λ z. cond (hit cls c start l i) (16384 + n) z) (h.entries i g)
            ∙ sym (given-entry t cls n c classes start l i (mark_in t i) h.apart);
        heads_fit = subst (λ z. length t.texts ≤ z) (sym (length-set heads c r)) h.heads_fit;
        events_fit = subst (λ z. 4 * z ≤ length working) (sym (from-length start (give_if t (n ∷ [])) l)) h.events_fit;
        few = subst (λ z. z < 65536) (sym (from-length start (give_if t (n ∷ [])) l)) h.few;
        table_fits = subst (λ z. 2 * length t.exprs ≤ z) (sym (after_long h m e u)) h.table_fits;
      }
    where
      own : Chain working (get_or (set heads c r) c 0) (waits cls c (from start (give_if t (n ∷ [])) l))
      own = subst (λ z. Chain working z (waits cls c (from start (give_if t (n ∷ [])) l))) (sym (get_or-set_same heads c r 0 (omega (arith, h.heads_fit))))
          (subst (Chain working r) (sym (own_cut t cls n c classes start l)) (left_is h m e u))

-- a link stored in the second number of an event leaves the chains before it and all first numbers
chain-kept : (w : List ℕ) (p x h n : ℕ) (qs : List ℕ) → Falls n qs → n ≤ p → Chain w h qs → Chain (store16 w (2 * (2 * p + 1)) x) h qs
unfolding Chain Falls
chain-kept w p x h n [] f g c = c
chain-kept w p x h n (q ∷ qs) f g c = (
  c.0,
  subst (λ z. Chain (store16 w (2 * (2 * p + 1)) x) z qs) (sym (half-other w (2 * q + 1) (2 * p + 1) x (λ e. omega (arith, f.0, e))))
      (chain-kept w p x (half w (2 * q + 1)) q qs f.1 (omega (arith, f.0)) c.1),
)

pub first-kept : (w : List ℕ) (p x q : ℕ) → half (store16 w (2 * (2 * p + 1)) x) (2 * q) ≡ half w (2 * q)
first-kept w p x q = half-other w (2 * q) (2 * p + 1) x (λ e. omega (arith, e))

held_kept : (l : List (Option Found)) (w : List ℕ) (p x : ℕ) → Held l w → Held l (store16 w (2 * (2 * p + 1)) x)
unfolding Held
held_kept [] w p x h = tt
held_kept (None ∷ l) w p x h = held_kept l w p x h
held_kept (Some f ∷ l) w p x h = (first-kept w p x (length l) ∙ h.0, held_kept l w p x h.1)

-- a Reference as it comes
abbrev coming : ScopeVisit → Option Found
coming v = Some (record { visit = v; name = None })

coming_entry : (t : Tree) (cls : ScopeVisit → ℕ) (v : ScopeVisit) (b : ℕ) → entry_for t cls 0 (coming v) b ≡ b
unfolding entry_for name_entry
coming_entry t cls v b = ap (λ z. cond z (place_entry (place_of (text_of t v)) b) b) (le-ltb (cls v) 0 (omega arith))

nothing-entry : (t : Tree) (cls : ScopeVisit → ℕ) (d b : ℕ) → entry_for t cls d None b ≡ b
unfolding entry_for
nothing-entry t cls d b = refl

coming_found : (t : Tree) (cls : ScopeVisit → ℕ) (v : ScopeVisit) (l : List (Option Found)) (i b : ℕ) → entered v.expr (visits_in l) ≡ None
    → entry_for t cls 0 (found_at l i) b ≡ entry_for t cls 0 (found_at (coming v ∷ l) i) b
unfolding found_at
coming_found t cls v l i b a = go (eqb v.expr i) refl
  where
    go : (c : Bool) → eqb v.expr i ≡ c → entry_for t cls 0 (found_at l i) b ≡ entry_for t cls 0 (cond c (coming v) (found_at l i)) b
    go true q =
        ap (λ o. entry_for t cls 0 o b) (absent_found l i (subst (λ z. entered z (visits_in l) ≡ None) (eqb-true v.expr i q) a))
        ∙ nothing-entry t cls 0 b ∙ sym (coming_entry t cls v b)
    go false q = refl

coming_waits : (cls : ScopeVisit → ℕ) (d : ℕ) (v : ScopeVisit) (l : List (Option Found)) (b : Bool) → eqb (cls v) d ≡ b
    → waits cls d (coming v ∷ l) ≡ cond b (length l ∷ waits cls d l) (waits cls d l)
unfolding waits waits_at waiting
coming_waits cls d v l b q = ap (λ z. cond z (length l ∷ waits cls d l) (waits cls d l)) q

module _ {t : Tree} {cls : ScopeVisit → ℕ} {l : List (Option Found)} {heads working table : List ℕ} (h : Holding t cls 0 l heads working table)
    {v : ScopeVisit} {p c head : ℕ} {after : List ℕ} (at : p ≡ length l) (its : half working (2 * p) ≡ v.expr) (new : entered v.expr (visits_in l) ≡ None)
    (inside : v.expr < length t.exprs) (room : 4 * p + 4 ≤ length working) (few : p + 1 < 65536)
    (k : c ≡ cls v) (m : c < length t.texts) (e : head ≡ get_or heads c 0) (a : after ≡ store16 working (4 * p + 2) head) where
  after_at : after ≡ store16 working (2 * (2 * p + 1)) head
  after_at = a ∙ (let z : 4 * p + 2 ≡ 2 * (2 * p + 1) = omega arith in rw z)

  linked : (d z : ℕ) → Chain working z (waits cls d l) → Chain after z (waits cls d l)
  linked d z g = subst (λ w. Chain w z (waits cls d l)) (sym after_at) (chain-kept working p head z (length l) (waits cls d l) (waits_fall cls d l) (omega (arith, at)) g)

  head_small : head < 65536
  head_small = omega (arith, h.few, head_low working head (length l) (waits cls c l) (subst (λ z. Chain working z (waits cls c l)) (sym e) (h.chains c m)) (waits_fall cls c l))

  own-chain : Chain after (p + 1) (waits cls c (coming v ∷ l))
  unfolding Chain
  own-chain = subst (Chain after (p + 1)) (sym (coming_waits cls c v l true (eq-eqb (cls v) c (sym k))))
      (ap (λ z. z + 1) at, subst (λ z. Chain after z (waits cls c l)) (sym link) (linked c (get_or heads c 0) (h.chains c m)))
    where
      link : half after (2 * length l + 1) ≡ get_or heads c 0
      link = ap (λ z. half after (2 * z + 1)) (sym at) ∙ ap (λ w. half w (2 * p + 1)) after_at ∙ half-same working (2 * p + 1) head (omega (arith, room)) head_small ∙ e

  -- a Reference in front of its class's chain
  pub holding_refer : Holding t cls 0 (coming v ∷ l) (set heads c (p + 1)) after table
  unfolding Held visits_in
  holding_refer =
      record {
        held = (ap (λ z. half after (2 * z)) (sym at) ∙ ap (λ w. half w (2 * p)) after_at ∙ first-kept working p head p ∙ its, subst (Held l) (sym after_at) (held_kept l working p head h.held));
        apart = (new, h.apart);
        low = (inside, h.low);
        chains = λ d g. elim (ℕ_discrete d c) [
          | yes q ↦ subst (λ z. Chain after (get_or (set heads c (p + 1)) z 0) (waits cls z (coming v ∷ l))) (sym q)
              (subst (λ z. Chain after z (waits cls c (coming v ∷ l))) (sym (get_or-set_same heads c (p + 1) 0 (omega (arith, m, h.heads_fit)))) own-chain)
          | no q ↦ subst (λ z. Chain after z (waits cls d (coming v ∷ l))) (sym (get_or-set_other heads c d (p + 1) 0 q))
              (subst (Chain after (get_or heads d 0)) (sym (coming_waits cls d v l false (ne_eqb (cls v) d (λ z. q (sym z ∙ sym k))))) (linked d (get_or heads d 0) (h.chains d g)))
        ];
        entries = λ i g. h.entries i g ∙ coming_found t cls v l i (mark_in t i) new;
        heads_fit = subst (λ z. length t.texts ≤ z) (sym (length-set heads c (p + 1))) h.heads_fit;
        events_fit = rw (a, length-store16 working (4 * p + 2) head) (omega (arith, at, room));
        few = omega (arith, at, few);
        table_fits = h.table_fits;
      }

-- the end of what lies inside an expression is no Reference
pub holding-none : {t : Tree} {cls : ScopeVisit → ℕ} {d : ℕ} {l : List (Option Found)} {heads working table : List ℕ} → Holding t cls d l heads working table
    → 4 * length l + 4 ≤ length working → length l + 1 < 65536 → Holding t cls d (None ∷ l) heads working table
unfolding Held visits_in found_at waits waits_at
holding-none h room few =
    record { held = h.held; apart = h.apart; low = h.low; chains = h.chains; entries = h.entries; heads_fit = h.heads_fit; events_fit = omega (arith, room); few = omega (arith, few); table_fits = h.table_fits }

-- The builtins of a class: what waits in it is the Reference that an expression is.
hit_found : (cls : ScopeVisit → ℕ) (d : ℕ) (l : List (Option Found)) (i : ℕ) → Once (visits_in l) → hit cls d 0 l i ≡ waits_at cls d (found_at l i)
unfolding hit found_at visits_in waits_at here
hit_found cls d [] i a = refl
hit_found cls d (None ∷ l) i a = ap (λ z. z && hit cls d 0 l i) (le-leb 0 (length l) (omega arith)) ∙ hit_found cls d l i a
hit_found cls d (Some f ∷ l) i a =
    ap (λ z. z && ((waiting cls d f.visit f.name && eqb f.visit.expr i) || hit cls d 0 l i)) (le-leb 0 (length l) (omega arith))
    ∙ go (eqb f.visit.expr i) refl (hit_found cls d l i a.1)
  where
    absent : eqb f.visit.expr i ≡ true → hit cls d 0 l i ≡ false
    absent q = hit_absent cls d 0 l i (subst (λ z. entered z (visits_in l) ≡ None) (eqb-true f.visit.expr i q) a.0)

    plain : (c : Bool) → ((c && true) || false) ≡ c
    plain true = refl
    plain false = refl

    skip : (c b : Bool) → ((c && false) || b) ≡ b
    skip true b = refl
    skip false b = refl

    go : (c : Bool) → eqb f.visit.expr i ≡ c → hit cls d 0 l i ≡ waits_at cls d (found_at l i)
        → ((waiting cls d f.visit f.name && c) || hit cls d 0 l i) ≡ waits_at cls d (cond c (Some f) (found_at l i))
    go true q ih = ap (λ z. (waiting cls d f.visit f.name && true) || z) (absent q) ∙ plain (waiting cls d f.visit f.name)
    go false q ih = skip (waiting cls d f.visit f.name) (hit cls d 0 l i) ∙ ih

-- the entry of one Reference when the builtins of class x have been entered too
module _ (t : Tree) (cls : ScopeVisit → ℕ) (x b : ℕ) (place : Option ℕ) where
  own-place : (v : ScopeVisit) → cls v ≡ x → place_of (text_of t v) ≡ place
      → cond (ltb (cls v) (x + 1)) (place_entry (place_of (text_of t v)) b) b
      ≡ cond (eqb (cls v) x) (place_entry place b) (cond (ltb (cls v) x) (place_entry (place_of (text_of t v)) b) b)
  own-place v q h =
      ap (λ z. cond z (place_entry (place_of (text_of t v)) b) b) (lt-ltb (cls v) (x + 1) (omega (arith, q)))
      ∙ ap (λ z. place_entry z b) h
      ∙ sym (ap (λ z. cond z (place_entry place b) (cond (ltb (cls v) x) (place_entry (place_of (text_of t v)) b) b)) (eq-eqb (cls v) x q))

  other_test : (v : ScopeVisit) → (cls v ≡ x → ⊥) → ltb (cls v) (x + 1) ≡ ltb (cls v) x
  other_test v q = elim (dec_lt (cls v) x) [
    | yes g ↦ lt-ltb (cls v) (x + 1) (omega (arith, g)) ∙ sym (lt-ltb (cls v) x g)
    | no g ↦ le-ltb (cls v) (x + 1) (omega (arith, g, q)) ∙ sym (le-ltb (cls v) x (omega (arith, g)))
  ]

  other_place : (v : ScopeVisit) → (cls v ≡ x → ⊥)
      → cond (ltb (cls v) (x + 1)) (place_entry (place_of (text_of t v)) b) b
      ≡ cond (eqb (cls v) x) (place_entry place b) (cond (ltb (cls v) x) (place_entry (place_of (text_of t v)) b) b)
  other_place v q =
      ap (λ z. cond z (place_entry (place_of (text_of t v)) b) b) (other_test v q)
      ∙ sym (ap (λ z. cond z (place_entry place b) (cond (ltb (cls v) x) (place_entry (place_of (text_of t v)) b) b)) (ne_eqb (cls v) x q))

  built_one : (v : ScopeVisit) (n : Option ℕ) → (cls v ≡ x → place_of (text_of t v) ≡ place)
      → name_entry n (cond (ltb (cls v) (x + 1)) (place_entry (place_of (text_of t v)) b) b)
      ≡ cond (waiting cls x v n) (place_entry place b) (name_entry n (cond (ltb (cls v) x) (place_entry (place_of (text_of t v)) b) b))
  unfolding name_entry waiting
  built_one v (Some n) h = refl
  built_one v None h = elim (ℕ_discrete (cls v) x) [ yes q ↦ own-place v q (h q) | no q ↦ other_place v q ]

  built_entry : (o : Option Found) → ((v : ScopeVisit) → cls v ≡ x → place_of (text_of t v) ≡ place)
      → entry_for t cls (x + 1) o b ≡ cond (waits_at cls x o) (place_entry place b) (entry_for t cls x o b)
  unfolding entry_for waits_at
  built_entry None h = refl
  built_entry (Some f) h = built_one f.visit f.name (h f.visit)

  -- what waits in class x has its mark
  waits-marked : (v : ScopeVisit) (n : Option ℕ) → name_entry n (cond (ltb (cls v) x) (place_entry (place_of (text_of t v)) b) b)
      ≡ cond (waiting cls x v n) b (name_entry n (cond (ltb (cls v) x) (place_entry (place_of (text_of t v)) b) b))
  unfolding name_entry waiting
  waits-marked v (Some n) = refl
  waits-marked v None = elim (ℕ_discrete (cls v) x) [
    | yes q ↦ ap (λ z. cond z (place_entry (place_of (text_of t v)) b) b) (le-ltb (cls v) x (omega (arith, q)))
        ∙ sym (ap (λ z. cond z b (cond (ltb (cls v) x) (place_entry (place_of (text_of t v)) b) b)) (eq-eqb (cls v) x q))
    | no q ↦ sym (ap (λ z. cond z b (cond (ltb (cls v) x) (place_entry (place_of (text_of t v)) b) b)) (ne_eqb (cls v) x q))
  ]

  marked-entry : (o : Option Found) → entry_for t cls x o b ≡ cond (waits_at cls x o) b (entry_for t cls x o b)
  unfolding entry_for waits_at
  marked-entry None = refl
  marked-entry (Some f) = waits-marked f.visit f.name

no-chain : (w qs : List ℕ) → Chain w 0 qs → qs ≡ []
unfolding Chain
no-chain w [] c = refl
no-chain w (q ∷ qs) c = absurd (omega (arith, c.0))

-- the entries after class x
module _ {t : Tree} {cls : ScopeVisit → ℕ} {x : ℕ} {l : List (Option Found)} {heads working table : List ℕ} (h : Holding t cls x l heads working table)
    (m : x < length t.texts) (place : Option ℕ) (texts : (v : ScopeVisit) → cls v ≡ x → place_of (text_of t v) ≡ place) where
  built_at : (i b : ℕ) → entry_for t cls (x + 1) (found_at l i) b ≡ cond (hit cls x 0 l i) (place_entry place b) (entry_for t cls x (found_at l i) b)
  built_at i b = built_entry t cls x b place (found_at l i) texts ∙ ap (λ z. cond z (place_entry place b) (entry_for t cls x (found_at l i) b)) (sym (hit_found cls x l i h.apart))

  with_table : {after : List ℕ} → length after ≡ length table → ((i : ℕ) → i < length t.exprs → half after i ≡ entry_for t cls (x + 1) (found_at l i) (mark_in t i))
      → Holding t cls (x + 1) l heads working after
  with_table e g =
      record { held = h.held; apart = h.apart; low = h.low; chains = h.chains; entries = g; heads_fit = h.heads_fit; events_fit = h.events_fit; few = h.few; table_fits = subst (λ z. 2 * length t.exprs ≤ z) (sym e) h.table_fits }

  -- nothing waits in it
  pub built_none : {head : ℕ} → head ≡ get_or heads x 0 → head ≡ 0 → Holding t cls (x + 1) l heads working table
  built_none e z = with_table refl (λ i g. h.entries i g ∙ sym (built_at i (mark_in t i) ∙ ap (λ b. cond b (place_entry place (mark_in t i)) (entry_for t cls x (found_at l i) (mark_in t i))) (none_hit i)))
    where
      none-waits : waits cls x l ≡ []
      none-waits = no-chain working (waits cls x l) (subst (λ y. Chain working y (waits cls x l)) (sym e ∙ z) (h.chains x m))

      none_hit : (i : ℕ) → hit cls x 0 l i ≡ false
      none_hit i = no_hit cls x 0 l working i h.held none-waits

  -- its text is no builtin
  pub built_not : place ≡ None → Holding t cls (x + 1) l heads working table
  unfolding place_entry
  built_not z = with_table refl (λ i g. h.entries i g ∙ marked-entry t cls x (mark_in t i) place (found_at l i)
      ∙ ap (λ b. cond b (mark_in t i) (entry_for t cls x (found_at l i) (mark_in t i))) (sym (hit_found cls x l i h.apart))
      ∙ sym (built_at i (mark_in t i) ∙ ap (λ o. cond (hit cls x 0 l i) (place_entry o (mark_in t i)) (entry_for t cls x (found_at l i) (mark_in t i))) z))

  -- its builtin is entered
  pub built_more : {head y r p : ℕ} {after : List ℕ} → head ≡ get_or heads x 0 → place ≡ Some p → p < 16384 → y ≡ 32768 + p → Unchained working head 0 y table after r
      → Holding t cls (x + 1) l heads working after
  unfolding place_entry
  built_more {p = p} e z s q u = with_table (after_long h m e u) (λ i g.
      after_hit h m e u (omega (arith, s, q)) i g
      ∙ ap (λ k. cond (hit cls x 0 l i) k (half table i)) q
      ∙ ap (λ k. cond (hit cls x 0 l i) (32768 + p) k) (h.entries i g)
      ∙ sym (built_at i (mark_in t i) ∙ ap (λ o. cond (hit cls x 0 l i) (place_entry o (mark_in t i)) (entry_for t cls x (found_at l i) (mark_in t i))) z))
