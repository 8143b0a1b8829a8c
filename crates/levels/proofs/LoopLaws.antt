-- The loops of the code: over the items of an expression, and over the expressions from 0 on.
use mathlib.Core.Path.{◌≡◌, refl, sym, ap, ◌∙◌}
use mathlib.Core.Bool.{not}
use mathlib.Core.Logic.{⊎_elim}
use mathlib.Core.List.{List, [], ◌∷◌, map}
use Prim.Native.Nat.{ℕ, ◌+◌, ◌≤◌, ◌<◌, ◌^◌, max}
use native.Mathlib.Numerals.{add-one}
use native.Mathlib.Omega.{arith}
use native.Mathlib.Decide.{ℕ_discrete}
use lib.ListN.{length, set, drop, drop_of_length-le, length-set}
use lib.Seq.{drop-cons, get_or-set_same, get_or-set_other}
use borrow.Author.Tests.{eq-eqb, ne_eqb}
use Rattle.semantics.specs.Base.{most, keep, listed, only}
use Rattle.semantics.specs.Tree.{Tree, Item, no_item, is_none, expr_at, item_at}
use Rattle.semantics.specs.Scopes.{children}
use Rattle.image_fields.specs.Image.{expr_count, count_of, decode}
use Rattle.image.specs.Inside.Accepted.{Accepted}
use Rattle.image.proofs.AcceptedLaws.{item-below}
use Rattle.image.proofs.OrderedLaws.{ordered}
use Rattle.levels.specs.Depth.{levels_from, levels_of}
use Rattle.levels.specs.Inside.Known.{Known}
use Rattle.levels.proofs.DepthLaws.{named, from-few, levels_are}

-- what these items name
pub names : List Item → List ℕ
names is = map (λ i. i.expression) (keep (λ i. not (is_none i.expression)) is)

named-items : (t : Tree) (e : ℕ) → names (expr_at t e).items ≡ named t e
unfolding names children
named-items t e = refl

-- one item more: it names nothing, or an expression
skip_none : (i : Item) (is : List Item) → i.expression ≡ 16383 → names (i ∷ is) ≡ names is
unfolding names keep listed only is_none
skip_none i is h = rw (eq-eqb i.expression 16383 h)

one_more : (i : Item) (is : List Item) → (i.expression ≡ 16383 → ⊥) → names (i ∷ is) ≡ i.expression ∷ names is
unfolding names keep listed only is_none
one_more i is h = rw (ne_eqb i.expression 16383 h)

no_names : names [] ≡ []
unfolding names keep
no_names = refl

most_cons : (f : ℕ → ℕ) (c : ℕ) (l : List ℕ) → most (map f (c ∷ l)) ≡ max (f c) (most (map f l))
unfolding most
most_cons f c l = refl

most-none : (f : ℕ → ℕ) → most (map f []) ≡ 0
unfolding most
most-none f = refl

-- the loop of `deepest`: the best so far, and what is left from item k on
pub record Deepening (t : Tree) (e count best k : ℕ) : Type 0 where
  pub inside : k ≤ count
  pub number : count ≡ length (expr_at t e).items
  pub rest : max best (most (map (levels_from t) (names (drop k (expr_at t e).items)))) ≡ most (map (levels_from t) (named t e))

pub deepening_start : (t : Tree) (e : ℕ) {count : ℕ} → count ≡ length (expr_at t e).items → Deepening t e count 0 0
deepening_start t e h = record { inside = omega arith; number = h; rest = rw (named-items t e) (omega arith) }

module _ {t : Tree} {e count best k : ℕ} (p : Deepening t e count best k) where
  module _ (l : k < count) where
    abbrev i : Item
    i = item_at t e k

    here : drop k (expr_at t e).items ≡ i ∷ drop (k + 1) (expr_at t e).items
    unfolding item_at
    here = rw add-one (drop-cons (expr_at t e).items k no_item (omega (arith, p.number)))

    pub deepening_skip : {c : ℕ} → c ≡ (item_at t e k).expression → c ≡ 16383 → Deepening t e count best (k + 1)
    deepening_skip f n = record { inside = omega arith; number = p.number; rest = rw (here, skip_none i (drop (k + 1) (expr_at t e).items) (sym f ∙ n)) at p.rest }

    pub deepening_more : {c : ℕ} → c ≡ (item_at t e k).expression → (c ≡ 16383 → ⊥) → {level next : ℕ} → level ≡ levels_from t c → next ≡ max best level → Deepening t e count next (k + 1)
    deepening_more f n {level} {next} v m =
        let w : level ≡ levels_from t i.expression = rw (← f) v in
        let r : max best (max (levels_from t i.expression) (most (map (levels_from t) (names (drop (k + 1) (expr_at t e).items))))) ≡ most (map (levels_from t) (named t e)) =
        rw (here, one_more i (drop (k + 1) (expr_at t e).items) (λ z. n (f ∙ z)), most_cons) at p.rest in
        record { inside = omega arith; number = p.number; rest = omega (arith, r, w, m) }

  pub deepening_done : count ≤ k → best ≡ most (map (levels_from t) (named t e))
  deepening_done l =
      let z : drop k (expr_at t e).items ≡ [] = drop_of_length-le (expr_at t e).items {i = k} (omega (arith, p.number)) in
      let r : max best 0 ≡ most (map (levels_from t) (named t e)) = rw (z, no_names, most-none) at p.rest in
      omega (arith, r)

-- the item that a turn looks at
module _ (s : List ℕ) (a : Accepted s) (e : ℕ) (l : e < expr_count s) (k : ℕ) (m : k < count_of s e) where
  pub child-below : {c : ℕ} → c ≡ (item_at (decode s) e k).expression → (c ≡ 16383 → ⊥) → c < e
  child-below h n = ⊎_elim (λ b. rw h b) (λ z. absurd (n (h ∙ z))) (item-below s a e l k m)

-- the loop of `levels_in`
module _ (s : List ℕ) (a : Accepted s) where
  -- the levels of an expression from the most below it
  pub one_level : (e : ℕ) {best : ℕ} → best ≡ most (map (levels_from (decode s)) (named (decode s) e)) → 1 + best ≡ levels_from (decode s) e
  one_level e h = ap (λ z. 1 + z) h ∙ sym (levels_are (decode s) (ordered s a) e)

  pub entry-inside : (decode s).entry < expr_count s
  unfolding decode
  entry-inside = a.entry

  pub entry_level : {e best : ℕ} → e ≡ (decode s).entry → best ≡ most (map (levels_from (decode s)) (named (decode s) e)) → 1 + best ≡ levels_of (decode s)
  unfolding levels_of
  entry_level {e} h q = one_level e q ∙ rw h

  pub known_more : {e v : ℕ} {levels : List ℕ} → Known (decode s) e levels → e < length levels → v ≡ levels_from (decode s) e → Known (decode s) (e + 1) (set levels e v)
  known_more {e} {v} {levels} k l h =
      record {
        long = omega (arith, l, length-set levels e v);
        known = λ x m. elim (ℕ_discrete x e) [
          | yes z ↦ rw z (get_or-set_same levels e v 0 l ∙ h)
          | no z ↦ get_or-set_other levels e x v 0 z ∙ k.known x (omega (arith, m, z))
        ];
      }

  pub known-all : {e entry : ℕ} {levels : List ℕ} → Known (decode s) e levels → entry ≤ e → Known (decode s) entry levels
  known-all k l = record { long = omega (arith, k.long, l); known = λ x m. k.known x (omega (arith, m, l)) }

  -- the levels of an image are few
  pub levels_small : levels_of (decode s) < 2 ^ 15
  unfolding levels_of
  levels_small = omega (arith, from-few (decode s) (decode s).entry, entry-inside, a.sized.exprs-few)
