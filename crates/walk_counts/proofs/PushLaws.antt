-- v more visits of all that items lead to.
use mathlib.Core.Path.{◌≡◌, refl, sym, ◌∙◌}
use mathlib.Core.Bool.{Bool, true, false, ◌&&◌}
use mathlib.Core.List.{List, [], ◌∷◌}
use Prim.Native.Nat.{ℕ, ◌+◌, ◌≤◌, ◌<◌}
use native.Mathlib.Numerals.{add-one}
use native.Mathlib.Omega.{arith}
use lib.ListN.{length, get_or, drop, drop_of_length-le}
use lib.Seq.{drop-cons}
use borrow.Author.Tests.{eq-eqb}
use Rattle.semantics.specs.Base.{keep, listed, only}
use Rattle.semantics.specs.Tree.{Item, no_item, is_none}
use Rattle.semantics.proofs.BaseLaws.{true≢false}
use Rattle.image_fields.specs.Image.{expr_count}
use Rattle.resolve_counts.specs.Inside.Visits.{More}
use Rattle.resolve_counts.proofs.RoomLaws.{Moves, moves_none, moves_more}
use Rattle.walk_visit.specs.declared.Rule.{Rule}
use Rattle.walk_visit.specs.Inside.Steps.{role_enters, enters_item}
use Rattle.walk_counts.specs.Inside.Visits.{entered, Pushed}

entered-not : (rule : Rule) (i : Item) (is : List Item) → enters_item rule i ≡ false → entered rule (i ∷ is) ≡ entered rule is
unfolding entered keep listed only
entered-not rule i is h = rw h

entered-more : (rule : Rule) (i : Item) (is : List Item) → enters_item rule i ≡ true → entered rule (i ∷ is) ≡ i.expression ∷ entered rule is
unfolding entered keep listed only
entered-more rule i is h = rw h

entered-none : (rule : Rule) → entered rule [] ≡ []
unfolding entered keep
entered-none rule = refl

-- what is entered has an expression
pub entered-some : (rule : Rule) (i : Item) → enters_item rule i ≡ true → i.expression ≡ 16383 → ⊥
unfolding enters_item is_none
entered-some rule i h e = let z : (false && role_enters rule i.role) ≡ true = rw (eq-eqb i.expression 16383 e) at h in true≢false z refl

-- the loop of `push`: what is left from item k on
pub record Pushing (s : List ℕ) (rule : Rule) (is : List Item) (v count : ℕ) (start now : List ℕ) (k : ℕ) : Type 0 where
  pub number : count ≡ length is
  pub kept : length now ≡ length start
  pub rest : (z : List ℕ) → Moves (expr_count s) v (entered rule (drop k is)) now z → Moves (expr_count s) v (entered rule is) start z

pub pushing_start : (s : List ℕ) (rule : Rule) (is : List Item) (v : ℕ) (start : List ℕ) {count : ℕ} → count ≡ length is → Pushing s rule is v count start start 0
pushing_start s rule is v start h = record { number = h; kept = refl; rest = λ z m. m }

module _ {s : List ℕ} {rule : Rule} {is : List Item} {v count : ℕ} {start now : List ℕ} {k : ℕ} (p : Pushing s rule is v count start now k) where
  module _ (l : k < count) {i : Item} (h : get_or is k no_item ≡ i) {b : Bool} (f : b ≡ enters_item rule i) where
    here : drop k is ≡ i ∷ drop (k + 1) is
    here = rw (add-one, ← h) (drop-cons is k no_item (omega (arith, p.number)))

    pub pushing_skip : b ≡ false → Pushing s rule is v count start now (k + 1)
    pushing_skip z =
        record {
          number = p.number;
          kept = p.kept;
          rest = λ y m. p.rest y (rw (here, entered-not rule i (drop (k + 1) is) (sym f ∙ z)) m);
        }

    pub pushing_more : b ≡ true → i.expression < expr_count s → {after : List ℕ} → More i.expression v now after → Pushing s rule is v count start after (k + 1)
    pushing_more z c m =
        record {
          number = p.number;
          kept = m.kept ∙ p.kept;
          rest = λ y n. p.rest y (rw (here, entered-more rule i (drop (k + 1) is) (sym f ∙ z)) (moves_more (entered rule (drop (k + 1) is)) c m n));
        }

  pub pushing_done : count ≤ k → Pushed s rule is v start now
  pushing_done l =
      let e : drop k is ≡ [] = drop_of_length-le is {i = k} (omega (arith, p.number)) in
      record { kept = p.kept; pushed = p.rest now (rw (e, entered-none rule) (moves_none (expr_count s) v now)) }
