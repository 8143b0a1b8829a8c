-- A name given from a place on takes out of its class's chain what stands from there on, and touches no other chain.
use Rattle.std.specs.Prelude.{Option, Some, None}
use mathlib.Core.Path.{◌≡◌, refl, sym, ap, ◌∙◌}
use mathlib.Core.Bool.{Bool, true, false, cond}
use mathlib.Core.List.{List, [], ◌∷◌, ◌++◌}
use Prim.Native.Nat.{ℕ, suc, ◌<◌, ◌≤◌}
use native.Mathlib.Omega.{arith}
use native.Mathlib.Decide.{dec_lt}
use lib.Dec.{eqb, ltb}
use lib.ListN.{length}
use borrow.Author.Tests.{eqb-true, ne_eqb, lt-ltb, le-ltb}
use Rattle.semantics.specs.Base.{keep, listed, only, or_else, All}
use Rattle.semantics.specs.Tree.{Tree}
use Rattle.semantics.specs.Scopes.{ScopeVisit}
use Rattle.semantics.proofs.BaseLaws.{All_to}
use Rattle.resolve_laws.specs.Inside.Settle.{Found, names, give}
use Rattle.resolve_laws.specs.Inside.Events.{give_each, give_if, from}
use Rattle.resolve_laws.specs.Inside.Waiting.{waiting, waits_at, waits}
use Rattle.resolve_laws.proofs.EventLaws.{from_cut, from_on, from-length}

waits-low : (cls : ScopeVisit → ℕ) (c : ℕ) (l : List (Option Found)) → All (λ q. q < length l) (waits cls c l)
unfolding waits
waits-low cls c [] = tt
waits-low cls c (x ∷ l) = go (waits_at cls c x) (All_to (λ q. q < length l) (λ q. q < suc (length l)) (waits cls c l) (λ q h. omega arith) (waits-low cls c l))
  where
    go : (b : Bool) → All (λ q. q < suc (length l)) (waits cls c l) → All (λ q. q < suc (length l)) (cond {A = List ℕ} b (length l ∷ waits cls c l) (waits cls c l))
    go true h = (omega arith, h)
    go false h = h

keep_all : (k : ℕ) (l : List ℕ) → All (λ q. q < k) l → keep (λ q. ltb q k) l ≡ l
unfolding keep listed only
keep_all k [] h = refl
keep_all k (q ∷ l) h = ap (λ z. listed (only z q) ++ keep (λ r. ltb r k) l) (lt-ltb q k h.0) ∙ ap (λ z. q ∷ z) (keep_all k l h.1)

keep-not : (k q : ℕ) (l : List ℕ) → k ≤ q → keep (λ r. ltb r k) (q ∷ l) ≡ keep (λ r. ltb r k) l
unfolding keep listed only
keep-not k q l h = ap (λ z. listed (only z q) ++ keep (λ r. ltb r k) l) (le-ltb q k h)

given-own : (cls : ScopeVisit → ℕ) (d n : ℕ) (w : ScopeVisit) (o : Option ℕ) (b : Bool) → b ≡ eqb (cls w) d → waiting cls d w (or_else o (only b n)) ≡ false
unfolding waiting or_else only
given-own cls d n w (Some m) b h = refl
given-own cls d n w None true h = refl
given-own cls d n w None false h = sym h

given-other : (cls : ScopeVisit → ℕ) (c d n : ℕ) → (c ≡ d → ⊥) → (w : ScopeVisit) (o : Option ℕ) (b : Bool) → b ≡ eqb (cls w) d → waiting cls c w (or_else o (only b n)) ≡ waiting cls c w o
unfolding waiting or_else only
given-other cls c d n ne w (Some m) b h = refl
given-other cls c d n ne w None true h = sym (ne_eqb (cls w) c (λ q. ne (sym q ∙ eqb-true (cls w) d (sym h))))
given-other cls c d n ne w None false h = refl

from_nil : {A : Type 0} (k : ℕ) (h : A → A) → from k h [] ≡ []
unfolding from
from_nil k h = refl

cut_nil : (cls : ScopeVisit → ℕ) (d k : ℕ) (h : Option Found → Option Found) → waits cls d (from k h []) ≡ keep (λ q. ltb q k) (waits cls d [])
unfolding from waits keep
cut_nil cls d k h = refl

cons_not : (cls : ScopeVisit → ℕ) (d : ℕ) (x : Option Found) (l : List (Option Found)) → waits_at cls d x ≡ false → waits cls d (x ∷ l) ≡ waits cls d l
unfolding waits
cons_not cls d x l h = rw h

cons_same : (cls : ScopeVisit → ℕ) (c : ℕ) (x y : Option Found) (l m : List (Option Found)) → waits_at cls c x ≡ waits_at cls c y → length l ≡ length m → waits cls c l ≡ waits cls c m
    → waits cls c (x ∷ l) ≡ waits cls c (y ∷ m)
unfolding waits
cons_same cls c x y l m h k r = ap (λ z. cond (waits_at cls c x) (z ∷ waits cls c l) (waits cls c l)) k ∙ ap (λ z. cond (waits_at cls c x) (length m ∷ z) z) r ∙ ap (λ z. cond z (length m ∷ waits cls c m) (waits cls c m)) h

keep_cons : (cls : ScopeVisit → ℕ) (d k : ℕ) (x : Option Found) (l : List (Option Found)) → k ≤ length l → keep (λ q. ltb q k) (waits cls d l) ≡ keep (λ q. ltb q k) (waits cls d (x ∷ l))
unfolding waits
keep_cons cls d k x l h = go (waits_at cls d x)
  where
    go : (b : Bool) → keep (λ q. ltb q k) (waits cls d l) ≡ keep (λ q. ltb q k) (cond {A = List ℕ} b (length l ∷ waits cls d l) (waits cls d l))
    go true = sym (keep-not k (length l) (waits cls d l) h)
    go false = refl

module _ (t : Tree) (cls : ScopeVisit → ℕ) (n d : ℕ) (classes : (w : ScopeVisit) → names t w n ≡ eqb (cls w) d) where
  -- one place: of the name's own class nothing waits any more, of another what waited waits
  give-own : (x : Option Found) → waits_at cls d (give_if t (n ∷ []) x) ≡ false
  unfolding waits_at give_if give_each give
  give-own None = refl
  give-own (Some f) = own-one f.name f.visit (names t f.visit n) (classes f.visit)
    where
      own-one : (o : Option ℕ) (w : ScopeVisit) (b : Bool) → b ≡ eqb (cls w) d → waiting cls d w (or_else o (only b n)) ≡ false
      own-one o w b h = given-own cls d n w o b h

  give-other : (c : ℕ) → (c ≡ d → ⊥) → (x : Option Found) → waits_at cls c (give_if t (n ∷ []) x) ≡ waits_at cls c x
  unfolding waits_at give_if give_each give
  give-other c ne None = refl
  give-other c ne (Some f) = other-one f.name f.visit (names t f.visit n) (classes f.visit)
    where
      other-one : (o : Option ℕ) (w : ScopeVisit) (b : Bool) → b ≡ eqb (cls w) d → waiting cls c w (or_else o (only b n)) ≡ waiting cls c w o
      other-one o w b h = given-other cls c d n ne w o b h

  -- THE LAW, own class: the chain is cut at the place
  pub own_cut : (k : ℕ) (l : List (Option Found)) → waits cls d (from k (give_if t (n ∷ [])) l) ≡ keep (λ q. ltb q k) (waits cls d l)
  own_cut k [] = cut_nil cls d k (give_if t (n ∷ []))
  own_cut k (x ∷ l) = elim (dec_lt (length l) k) [
    | yes h ↦ ap (waits cls d) (from_cut (give_if t (n ∷ [])) x l k h)
        ∙ sym (keep_all k (waits cls d (x ∷ l)) (All_to (λ q. q < suc (length l)) (λ q. q < k) (waits cls d (x ∷ l)) (λ q m. omega (arith, h, m)) (waits-low cls d (x ∷ l))))
    | no h ↦ ap (waits cls d) (from_on (give_if t (n ∷ [])) x l k (omega (arith, h)))
        ∙ cons_not cls d (give_if t (n ∷ []) x) (from k (give_if t (n ∷ [])) l) (give-own x)
        ∙ own_cut k l
        ∙ keep_cons cls d k x l (omega (arith, h))
  ]

  -- and no other class is touched
  pub other-kept : (c : ℕ) → (c ≡ d → ⊥) → (k : ℕ) (l : List (Option Found)) → waits cls c (from k (give_if t (n ∷ [])) l) ≡ waits cls c l
  other-kept c ne k [] = ap (waits cls c) (from_nil k (give_if t (n ∷ [])))
  other-kept c ne k (x ∷ l) = elim (dec_lt (length l) k) [
    | yes h ↦ ap (waits cls c) (from_cut (give_if t (n ∷ [])) x l k h)
    | no h ↦ ap (waits cls c) (from_on (give_if t (n ∷ [])) x l k (omega (arith, h)))
        ∙ cons_same cls c (give_if t (n ∷ []) x) x (from k (give_if t (n ∷ [])) l) l (give-other c ne x) (from-length k (give_if t (n ∷ [])) l) (other-kept c ne k l)
  ]
