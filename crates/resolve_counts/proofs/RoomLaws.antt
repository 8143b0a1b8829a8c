-- Counts in a buffer: v more of one, and of all that items lead to.
use mathlib.Core.Path.{◌≡◌, refl, ap, ◌∙◌}
use mathlib.Core.Bool.{true, false}
use mathlib.Core.List.{List, [], ◌∷◌}
use Prim.Native.Nat.{ℕ, zero, suc, ◌+◌, ◌≤◌, ◌<◌, min}
use native.Mathlib.Numerals.{add-one}
use native.Mathlib.Omega.{arith}
use native.Mathlib.Decide.{ℕ_discrete}
use lib.ListN.{length, get_or, set, replicate, length-set, length-replicate, drop, drop_of_length-le}
use lib.Seq.{drop-cons, get_or-set_same, get_or-set_other}
use Rattle.semantics.specs.Base.{keep, listed, only}
use Rattle.semantics.specs.Tree.{Tree, Item, no_item}
use Rattle.image_fields.specs.Image.{expr_count, decode}
use Rattle.resolve_laws.specs.Inside.Counts.{add, add_all}
use Rattle.resolve_laws.proofs.CountLaws.{add_here, add_there}
use Rattle.resolve_counts.specs.Inside.Visits.{stop, Holds, More, leads, leaf, inner, leaves, Pushed}

-- `add`
pub stored_more : {room : List ℕ} (c : ℕ) {v old x : ℕ} → c < length room → old ≡ get_or room c 0 → x ≡ min (old + v) stop → More c v room (set room c x)
stored_more {room} c {v} {old} {x} l h m =
    record {
      kept = length-set room c x;
      more = get_or-set_same room c x 0 l ∙ m ∙ ap (λ z. min (z + v) stop) h;
      others = λ e n. get_or-set_other room c e x 0 n;
    }

pub holds_more : {n c v : ℕ} {pend : ℕ → ℕ} {before after : List ℕ} → Holds n pend before → c < n → More c v before after → Holds n (add pend v c) after
holds_more {n} {c} {v} {pend} h l m =
    record {
      long = omega (arith, h.long, m.kept);
      counts = λ e k. elim (ℕ_discrete e c) [
        | yes z ↦ rw (z, add_here pend v c) (m.more ∙ ap (λ y. min (y + v) stop) (h.counts c l) ∙ omega arith)
        | no z ↦ rw (add_there pend v c e z) (m.others e z ∙ h.counts e k)
      ];
    }

-- a new array
zero-at : (n e : ℕ) → get_or {A = ℕ} (replicate n 0) e 0 ≡ 0
zero-at zero e = refl
zero-at (suc n) zero = refl
zero-at (suc n) (suc e) = zero-at n e

pub held_new : (n : ℕ) {k : ℕ} → k ≤ n → Holds k (λ e. 0) (replicate n 0)
held_new n h = record { long = omega (arith, h, length-replicate {A = ℕ} n 0); counts = λ e l. zero-at n e }

-- one item more: it leads nowhere, to a leaf, or to an expression with items
module _ (t : Tree) (i : Item) (is : List Item) where
  skip_inner : leads i ≡ false → inner t (i ∷ is) ≡ inner t is
  unfolding inner keep listed only
  skip_inner h = rw h

  skip_leaves : leads i ≡ false → leaves t (i ∷ is) ≡ leaves t is
  unfolding leaves keep listed only
  skip_leaves h = rw h

  module _ (h : leads i ≡ true) where
    leaf-inner : leaf t i.expression ≡ true → inner t (i ∷ is) ≡ inner t is
    unfolding inner keep listed only
    leaf-inner g = rw (h, g)

    leaf-leaves : leaf t i.expression ≡ true → leaves t (i ∷ is) ≡ 1 + leaves t is
    unfolding leaves keep listed only
    leaf-leaves g = rw (h, g) (omega arith)

    more-inner : leaf t i.expression ≡ false → inner t (i ∷ is) ≡ i.expression ∷ inner t is
    unfolding inner keep listed only
    more-inner g = rw (h, g)

    more-leaves : leaf t i.expression ≡ false → leaves t (i ∷ is) ≡ leaves t is
    unfolding leaves keep listed only
    more-leaves g = rw (h, g)

none-inner : (t : Tree) → inner t [] ≡ []
unfolding inner keep
none-inner t = refl

none-leaves : (t : Tree) → leaves t [] ≡ 0
unfolding leaves keep
none-leaves t = refl

-- v more of each of these
abbrev pub Moves : ℕ → ℕ → List ℕ → List ℕ → List ℕ → Type 0
Moves n v cs before after = (pend : ℕ → ℕ) → Holds n pend before → Holds n (add_all pend v cs) after

pub moves_none : (n v : ℕ) (room : List ℕ) → Moves n v [] room room
unfolding add_all
moves_none n v room pend h = h

pub moves_more : {n v c : ℕ} (cs : List ℕ) {before now after : List ℕ} → c < n → More c v before now → Moves n v cs now after → Moves n v (c ∷ cs) before after
unfolding add_all
moves_more {v = v} {c = c} cs l m f pend h = f (add pend v c) (holds_more h l m)

-- the loop of `push`: what is left from item k on
pub record Pushing (s : List ℕ) (is : List Item) (v count : ℕ) (start now : List ℕ) (r k : ℕ) : Type 0 where
  pub inside : k ≤ count
  pub number : count ≡ length is
  pub kept : length now ≡ length start
  pub few : r ≤ k
  pub bare : r + leaves (decode s) (drop k is) ≡ leaves (decode s) is
  pub rest : (z : List ℕ) → Moves (expr_count s) v (inner (decode s) (drop k is)) now z → Moves (expr_count s) v (inner (decode s) is) start z

pub pushing_start : (s : List ℕ) (is : List Item) (v : ℕ) (start : List ℕ) {count : ℕ} → count ≡ length is → Pushing s is v count start start 0 0
pushing_start s is v start h = record { inside = omega arith; number = h; kept = refl; few = omega arith; bare = omega arith; rest = λ z m. m }

module _ {s : List ℕ} {is : List Item} {v count : ℕ} {start now : List ℕ} {r k : ℕ} (p : Pushing s is v count start now r k) where
  module _ (l : k < count) {i : Item} (h : get_or is k no_item ≡ i) where
    here : drop k is ≡ i ∷ drop (k + 1) is
    here = rw (add-one, ← h) (drop-cons is k no_item (omega (arith, p.number)))

    pub pushing_skip : leads i ≡ false → Pushing s is v count start now r (k + 1)
    pushing_skip f =
        record {
          inside = omega arith;
          number = p.number;
          kept = p.kept;
          few = omega (arith, p.few);
          bare = rw (here, skip_leaves (decode s) i (drop (k + 1) is) f) at p.bare;
          rest = λ z m. p.rest z (rw (here, skip_inner (decode s) i (drop (k + 1) is) f) m);
        }

    module _ (f : leads i ≡ true) where
      pub pushing_leaf : leaf (decode s) i.expression ≡ true → Pushing s is v count start now (r + 1) (k + 1)
      pushing_leaf g =
          let b : r + (1 + leaves (decode s) (drop (k + 1) is)) ≡ leaves (decode s) is = rw (here, leaf-leaves (decode s) i (drop (k + 1) is) f g) at p.bare in
          record {
            inside = omega arith;
            number = p.number;
            kept = p.kept;
            few = omega (arith, p.few);
            bare = omega (arith, b);
            rest = λ z m. p.rest z (rw (here, leaf-inner (decode s) i (drop (k + 1) is) f g) m);
          }

      pub pushing_more : leaf (decode s) i.expression ≡ false → i.expression < expr_count s → {after : List ℕ} → More i.expression v now after → Pushing s is v count start after r (k + 1)
      pushing_more g c m =
          record {
            inside = omega arith;
            number = p.number;
            kept = m.kept ∙ p.kept;
            few = omega (arith, p.few);
            bare = rw (here, more-leaves (decode s) i (drop (k + 1) is) f g) at p.bare;
            rest = λ z n. p.rest z (rw (here, more-inner (decode s) i (drop (k + 1) is) f g) (moves_more (inner (decode s) (drop (k + 1) is)) c m n));
          }

  pub pushing_done : count ≤ k → Pushed s is v r start now
  pushing_done l =
      let e : drop k is ≡ [] = drop_of_length-le is {i = k} (omega (arith, p.number)) in
      let b : r + 0 ≡ leaves (decode s) is = rw (e, none-leaves (decode s)) at p.bare in
      record { kept = p.kept; bare = omega (arith, b); pushed = p.rest now (rw (e, none-inner (decode s)) (moves_none (expr_count s) v now)) }
