-- A list of texts in order: the look by halves, and one text more.
use Rattle.std.specs.Prelude.{Option, Some, None}
use mathlib.Core.Path.{◌≡◌, refl, ap, sym, subst, ◌∙◌}
use mathlib.Core.Bool.{Bool, true, false}
use mathlib.Core.List.{List, [], ◌∷◌, ◌++◌}
use Prim.Native.Nat.{ℕ, zero, suc, ◌+◌, ◌≤◌, ◌<◌}
use native.Mathlib.Numerals.{add-one}
use native.Mathlib.Omega.{arith}
use lib.ListN.{length, get_or, take, drop, take-append-drop, drop_of_length-le}
use lib.Seq.{get_or-take, length-take-le}
use Rattle.semantics.specs.Base.{only, or_else, All}
use Rattle.semantics.specs.Tree.{Tree, Text, text_at, same}
use Rattle.semantics.proofs.BaseLaws.{same-equal, same_refl, All-++, All-left, All_right, All_to}
use Rattle.image_fields.specs.Image.{text_count, decode}
use Rattle.resolve_laws.specs.Inside.Classes.{alike}
use Rattle.resolve_laws.proofs.ClassLaws.{alike_nil, alike_cons}
use Rattle.std.specs.declared.cmp.Ordering.{Ordering}
use Rattle.std.specs.declared.cmp.Ordering.TheVariants.{Less, Equal, Greater}
use Rattle.text_order.specs.Inside.Order.{compared, Rising, Ordered, Looked}
use Rattle.text_order.proofs.CompareLaws.{compared_same, compared-turned, compared_trans, apart}

-- what holds of each element holds at a place
pub all_here : (P : ℕ → Type 0) (l : List ℕ) (k d : ℕ) → All P l → k < length l → P (get_or l k d)
all_here P [] k d a h = absurd (omega arith)
all_here P (z ∷ l) zero d a h = a.0
all_here P (z ∷ l) (suc k) d a h = all_here P l k d a.1 (omega arith)

some_first : {A : Type 0} (b : Bool) (a : A) (o : Option A) → b ≡ true → or_else (only b a) o ≡ Some a
unfolding or_else only
some_first true a o h = refl
some_first false a o h = cc

none_first : {A : Type 0} (b : Bool) (a : A) (o : Option A) → (b ≡ true → ⊥) → or_else (only b a) o ≡ o
unfolding or_else only
none_first true a o h = absurd (h refl)
none_first false a o h = refl

module _ (t : Tree) (x : ℕ) where
  -- other bytes are passed over
  pub alike-apart : (l : List ℕ) → All (λ z. text_at t x ≡ text_at t z → ⊥) l → alike t x l ≡ None
  alike-apart [] a = alike_nil t x
  alike-apart (z ∷ l) a =
      alike_cons t x z l
      ∙ none_first (same (text_at t x) (text_at t z)) z (alike t x l) (λ q. a.0 (same-equal (text_at t x) (text_at t z) q))
      ∙ alike-apart l a.1

  -- the bytes of x at a place
  pub rising-found : (l : List ℕ) (k : ℕ) → Rising t l → k < length l → text_at t (get_or l k 0) ≡ text_at t x → alike t x l ≡ Some (get_or l k 0)
  rising-found [] k r h e = absurd (omega arith)
  rising-found (z ∷ l) zero r h e =
      alike_cons t x z l
      ∙ some_first (same (text_at t x) (text_at t z)) z (alike t x l) (subst (λ a. same a (text_at t z) ≡ true) e (same_refl (text_at t z)))
  rising-found (z ∷ l) (suc k) r h e =
      alike_cons t x z l
      ∙ none_first (same (text_at t x) (text_at t z)) z (alike t x l)
      (λ q. apart (all_here (λ w. compared (text_at t z) (text_at t w) ≡ Less) l k 0 r.0 (omega arith)) (sym (same-equal (text_at t x) (text_at t z) q) ∙ sym e))
      ∙ rising-found l k r.1 (omega arith) e

  -- the texts up to one that is before x, and from one on that is behind it
  pub rising-lower : (l : List ℕ) (k : ℕ) → Rising t l → k < length l → compared (text_at t (get_or l k 0)) (text_at t x) ≡ Less
      → All (λ z. compared (text_at t z) (text_at t x) ≡ Less) (take (suc k) l)
  rising-lower [] k r h e = absurd (omega arith)
  rising-lower (z ∷ l) zero r h e = (e, tt)
  rising-lower (z ∷ l) (suc k) r h e = (
    compared_trans (text_at t z) (text_at t (get_or l k 0)) (text_at t x) (all_here (λ w. compared (text_at t z) (text_at t w) ≡ Less) l k 0 r.0 (omega arith)) e,
    rising-lower l k r.1 (omega arith) e,
  )

  pub rising_higher : (l : List ℕ) (k : ℕ) → Rising t l → k < length l → compared (text_at t x) (text_at t (get_or l k 0)) ≡ Less
      → All (λ w. compared (text_at t x) (text_at t w) ≡ Less) (drop k l)
  rising_higher [] k r h e = absurd (omega arith)
  rising_higher (z ∷ l) zero r h e = (
    e,
    All_to (λ w. compared (text_at t z) (text_at t w) ≡ Less) (λ w. compared (text_at t x) (text_at t w) ≡ Less) l
        (λ w q. compared_trans (text_at t x) (text_at t z) (text_at t w) e q) r.0,
  )
  rising_higher (z ∷ l) (suc k) r h e = rising_higher l k r.1 (omega arith) e

  -- one text more
  pub rising_insert : (l r : List ℕ) → Rising t (l ++ r) → All (λ z. compared (text_at t z) (text_at t x) ≡ Less) l
      → All (λ w. compared (text_at t x) (text_at t w) ≡ Less) r → Rising t (l ++ x ∷ r)
  rising_insert [] r g a b = (b, g)
  rising_insert (z ∷ l) r g a b = (
    All-++ (λ w. compared (text_at t z) (text_at t w) ≡ Less) l (x ∷ r) (All-left (λ w. compared (text_at t z) (text_at t w) ≡ Less) l r g.0)
        (a.0, All_right (λ w. compared (text_at t z) (text_at t w) ≡ Less) l r g.0),
    rising_insert l r g.1 a.1 b,
  )

-- the loop of `look`
pub record Looking (s list : List ℕ) (x low high : ℕ) : Type 0 where
  pub low_high : low ≤ high
  pub high_inside : high ≤ length list
  pub lower : All (λ z. compared (text_at (decode s) z) (text_at (decode s) x) ≡ Less) (take low list)
  pub higher : All (λ w. compared (text_at (decode s) x) (text_at (decode s) w) ≡ Less) (drop high list)

pub looking_start : {s list : List ℕ} → (x : ℕ) → Looking s list x 0 (length list)
looking_start {s} {list} x =
    record {
      low_high = omega arith;
      high_inside = omega arith;
      lower = tt;
      higher = subst (All (λ w. compared (text_at (decode s) x) (text_at (decode s) w) ≡ Less)) (sym (drop_of_length-le list {i = length list} (omega arith))) tt;
    }

module _ {s list : List ℕ} (o : Ordered s list) {x low high : ℕ} (g : Looking s list x low high) where
  pub looking_none : high ≤ low → Looked s list x None
  looking_none h = record { answer = absent }
    where
      absent : alike (decode s) x list ≡ None
      absent =
          let e : low ≡ high = omega (arith, g.low_high) in
          let up : All (λ w. compared (text_at (decode s) x) (text_at (decode s) w) ≡ Less) (drop low list) =
          subst (λ k. All (λ w. compared (text_at (decode s) x) (text_at (decode s) w) ≡ Less) (drop k list)) (sym e) g.higher in
          ap (alike (decode s) x) (sym (take-append-drop low list))
          ∙ alike-apart (decode s) x (take low list ++ drop low list)
          (All-++ (λ z. text_at (decode s) x ≡ text_at (decode s) z → ⊥) (take low list) (drop low list)
          (All_to (λ z. compared (text_at (decode s) z) (text_at (decode s) x) ≡ Less) (λ z. text_at (decode s) x ≡ text_at (decode s) z → ⊥) (take low list) (λ z q i. apart q (sym i)) g.lower)
          (All_to (λ w. compared (text_at (decode s) x) (text_at (decode s) w) ≡ Less) (λ z. text_at (decode s) x ≡ text_at (decode s) z → ⊥) (drop low list) (λ w q i. apart q i) up))

  module _ (k : ℕ) {z : ℕ} (l : low ≤ k) (m : k < high) (e : z ≡ get_or list k 0) where
    middle : k < length list
    middle = omega (arith, g.high_inside)

    module _ {a b : Text} (p : a ≡ text_at (decode s) z) (q : b ≡ text_at (decode s) x) {r : Ordering} (c : r ≡ compared a b) where
      here : r ≡ compared (text_at (decode s) (get_or list k 0)) (text_at (decode s) x)
      here = c ∙ rw (p, q, e)

      pub looking_found : r ≡ Equal → Looked s list x (Some z)
      looking_found f =
          record {
            answer = rising-found (decode s) x list k o.rising middle
                (compared_same (text_at (decode s) (get_or list k 0)) (text_at (decode s) x) (sym here ∙ f)) ∙ rw e;
          }

      pub looking_low : r ≡ Less → Looking s list x (k + 1) high
      looking_low f =
          record {
            low_high = omega arith;
            high_inside = g.high_inside;
            lower = rw add-one (rising-lower (decode s) x list k o.rising middle (sym here ∙ f));
            higher = g.higher;
          }

      pub looking_high : r ≡ Greater → Looking s list x low k
      looking_high f =
          record {
            low_high = l;
            high_inside = omega (arith, middle);
            lower = g.lower;
            higher = rising_higher (decode s) x list k o.rising middle
                (compared-turned (text_at (decode s) (get_or list k 0)) (text_at (decode s) x) (sym here ∙ f));
          }
