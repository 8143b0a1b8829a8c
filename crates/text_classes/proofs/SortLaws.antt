-- The way out: the names' texts in order, and the classes of all texts by them.
use Rattle.std.specs.Prelude.{Option, Some, None}
use mathlib.Core.Path.{◌≡◌, refl, ap, sym, subst, ◌∙◌}
use mathlib.Core.Bool.{true}
use mathlib.Core.List.{List, [], ◌∷◌, ◌++◌, Memᴰ}
use Prim.Native.Nat.{ℕ, zero, suc, ◌+◌, ◌^◌, ◌≤◌, ◌<◌}
use native.Mathlib.Omega.{arith}
use native.Mathlib.Decide.{ℕ_discrete}
use native.Mathlib.Numerals.{add-one}
use lib.ListN.{length, get_or, set, take, drop, length-set, length-append}
use lib.Seq.{take_all, take-suc-set, take-append-le, length-take-le, get_or-set_same, get_or-set_other}
use Rattle.std.specs.Prelude as std
use Rattle.semantics.specs.Base.{only, or_else, All, ◌∈◌}
use Rattle.semantics.specs.Tree.{name_at, text_at, same}
use Rattle.semantics.proofs.BaseLaws.{clash, same_refl, All-++, All-at, All_to, All-places}
use Rattle.image_fields.specs.Image.{name_count, text_count, decode}
use Rattle.image_fields.specs.Inside.Numbers.{number_or}
use Rattle.image.specs.Inside.Accepted.{Accepted}
use Rattle.resolve_laws.specs.Inside.Classes.{alike, name_texts, class_of}
use Rattle.resolve_laws.proofs.ClassLaws.{alike_append, alike-one}
use Rattle.text_order.specs.Inside.Order.{Ordered, Looked}
use Rattle.text_order.proofs.RisingLaws.{all_here, rising-found}
use Rattle.text_sort.specs.Inside.Sorts.{Sorts}
use Rattle.text_classes.specs.Inside.Chains.{Clear, Named, Own, Told, Sorted, Kept}
use Rattle.text_classes.proofs.ChainLaws.{positive}
use Rattle.text_classes.proofs.NameLaws.{name-text, many-names, names-one, told-final, no_change}
use Rattle.text_classes.proofs.DistinctLaws.{Distinct, distinct_snoc, distinct_few}

-- `list_names`: texts that are marked stand in the list, and names have their bytes
pub record Listing (s class₀ order₀ class order : List ℕ) (count n : ℕ) : Type 0 where
  pub inside : n ≤ name_count s
  pub class_kept : length class ≡ length class₀
  pub order-kept : length order ≡ length order₀
  pub fits : count ≤ length order
  pub texts : All (λ z. z < text_count s) (take count order)
  pub distinct : Distinct (take count order)
  pub marked : All (λ z. 0 < get_or class z 0) (take count order)
  pub seen : (x : ℕ) → x < text_count s → 0 < get_or class x 0 → alike (decode s) x (take n (name_texts (decode s))) ≡ None → ⊥
  pub tells : (x : ℕ) → alike (decode s) x (take count order) ≡ alike (decode s) x (take n (name_texts (decode s)))

or_left : {A : Type 0} (o p : Option A) → or_else o p ≡ None → o ≡ None
unfolding or_else
or_left None p h = refl
or_left (Some a) p h = absurd (clash (sym h))

or_here : {A : Type 0} (o : Option A) (a : A) → or_else o (only true a) ≡ None → ⊥
unfolding or_else only
or_here None a h = clash (sym h)
or_here (Some b) a h = clash (sym h)

pub listing_start : (s : List ℕ) {class : List ℕ} (order : List ℕ) → Clear class → Listing s class order class order 0 0
listing_start s order c =
    record {
      inside = omega arith;
      class_kept = refl;
      order-kept = refl;
      fits = omega arith;
      texts = tt;
      distinct = tt;
      marked = tt;
      seen = λ x l h. absurd (omega (arith, c.zero-at x));
      tells = λ x. refl;
    }

module _ {s class₀ order₀ class order : List ℕ} {count n : ℕ} (g : Listing s class₀ order₀ class order count n) (a : Accepted s) (m : n < name_count s) {x : ℕ} (e : x ≡ (name_at (decode s) n).text)
    (c : text_count s ≤ length class₀) where
  pub listing_class : x < length class
  listing_class = omega (arith, name-text a m e, g.class_kept)

  -- a text that an earlier name has
  pub listing_known : (get_or class x 0 ≡ 0 → ⊥) → Listing s class₀ order₀ class order count (n + 1)
  listing_known h =
      record {
        inside = omega arith;
        class_kept = g.class_kept;
        order-kept = g.order-kept;
        fits = g.fits;
        texts = g.texts;
        distinct = g.distinct;
        marked = g.marked;
        seen = λ y l q z. g.seen y l q (sym (unchanged y) ∙ z);
        tells = λ y. g.tells y ∙ sym (unchanged y);
      }
    where
      unchanged : (y : ℕ) → alike (decode s) y (take (n + 1) (name_texts (decode s))) ≡ alike (decode s) y (take n (name_texts (decode s)))
      unchanged y = go (alike (decode s) x (take n (name_texts (decode s)))) refl
        where
          go : (o : Option ℕ) → alike (decode s) x (take n (name_texts (decode s))) ≡ o
              → alike (decode s) y (take (n + 1) (name_texts (decode s))) ≡ alike (decode s) y (take n (name_texts (decode s)))
          go None q = absurd (g.seen x (name-text a m e) (positive (get_or class x 0) h) q)
          go (Some z) q = no_change s m e q y

  module _ (f : get_or class x 0 ≡ 0) (l : text_count s ≤ length order₀) where
    abbrev longer : List ℕ
    longer = take count order ++ (x ∷ [])

    longer_texts : All (λ z. z < text_count s) longer
    longer_texts = All-++ (λ z. z < text_count s) (take count order) (x ∷ []) g.texts (name-text a m e, tt)

    longer_distinct : Distinct longer
    longer_distinct = distinct_snoc (take count order) x g.distinct (All_to (λ z. 0 < get_or class z 0) (λ z. z ≡ x → ⊥) (take count order) other g.marked)
      where
        other : (z : ℕ) → 0 < get_or class z 0 → z ≡ x → ⊥
        other z h i = let k : 0 < get_or class x 0 = subst (λ w. 0 < get_or class w 0) i h in omega (arith, k)

    longer_many : length longer ≡ count + 1
    longer_many = omega (arith, length-append (take count order) (x ∷ []), length-take-le count order g.fits)

    -- there is room for it
    pub listing_fits : count < length order
    listing_fits = omega (arith, longer_many, distinct_few (text_count s) longer longer_distinct longer_texts, g.order-kept)

    front : take (count + 1) (set order count x) ≡ longer
    front = rw add-one (take-suc-set order count x listing_fits)

    pub listing_new : {v : ℕ} → 0 < v → Listing s class₀ order₀ (set class x v) (set order count x) (count + 1) (n + 1)
    listing_new {v} p =
        record {
          inside = omega arith;
          class_kept = length-set class x v ∙ g.class_kept;
          order-kept = length-set order count x ∙ g.order-kept;
          fits = omega (arith, length-set order count x, listing_fits);
          texts = subst (All (λ z. z < text_count s)) (sym front) longer_texts;
          distinct = subst Distinct (sym front) longer_distinct;
          marked = subst (All (λ z. 0 < get_or (set class x v) z 0)) (sym front)
              (All-++ (λ z. 0 < get_or (set class x v) z 0) (take count order) (x ∷ [])
              (All_to (λ z. 0 < get_or class z 0) (λ z. 0 < get_or (set class x v) z 0) (take count order) still g.marked) (own, tt));
          seen = λ y h q z. elim (ℕ_discrete y x) [
            | yes i ↦ here (sym (ap (λ w. alike (decode s) w (take (n + 1) (name_texts (decode s)))) i) ∙ z)
            | no i ↦ g.seen y h (rw (get_or-set_other class x y v 0 i) at q) (or_left (alike (decode s) y (take n (name_texts (decode s)))) _ (sym (names-one s m e y) ∙ z))
          ];
          tells = λ y.
              ap (alike (decode s) y) front
              ∙ alike_append (decode s) y (take count order) (x ∷ [])
              ∙ ap (or_else (alike (decode s) y (take count order))) (alike-one (decode s) y x)
              ∙ ap (λ o. or_else o (only (same (text_at (decode s) y) (text_at (decode s) x)) x)) (g.tells y)
              ∙ sym (names-one s m e y);
        }
      where
        own : 0 < get_or (set class x v) x 0
        own = rw (get_or-set_same class x v 0 listing_class) p

        still : (z : ℕ) → 0 < get_or class z 0 → 0 < get_or (set class x v) z 0
        still z h = elim (ℕ_discrete z x) [ yes i ↦ rw i own | no i ↦ rw (get_or-set_other class x z v 0 i) h ]

        here : alike (decode s) x (take (n + 1) (name_texts (decode s))) ≡ None → ⊥
        here z =
            or_here (alike (decode s) x (take n (name_texts (decode s)))) x
            (ap (λ b. or_else (alike (decode s) x (take n (name_texts (decode s)))) (only b x)) (sym (same_refl (text_at (decode s) x))) ∙ sym (names-one s m e x) ∙ z)

pub listing_done : {s class₀ order₀ class order : List ℕ} {count n : ℕ} → Listing s class₀ order₀ class order count n → name_count s ≤ n → Named s order count (name_count s)
listing_done {s} {class₀} {order₀} {class} {order} {count} {n} g l =
    let z : n ≡ name_count s = omega (arith, g.inside) in
    record {
      inside = g.fits;
      few = omega (arith, distinct_few (text_count s) (take count order) g.distinct g.texts, length-take-le count order g.fits);
      texts = g.texts;
      tells = λ x. g.tells x ∙ ap (λ k. alike (decode s) x (take k (name_texts (decode s)))) z;
    }

-- `keep_listed`
pub record Keeping (class₀ class list : List ℕ) : Type 0 where
  pub class_kept : length class ≡ length class₀
  pub own : Own class list

pub keeping_start : {class : List ℕ} (list : List ℕ) → Clear class → Keeping class class list
keeping_start list c = record { class_kept = refl; own = record { own = λ x h. absurd (omega (arith, c.zero-at x)) } }

member : (l : List ℕ) (k d : ℕ) → k < length l → get_or l k d ∈ l
member [] k d h = absurd (omega arith)
member (z ∷ l) zero d h = Memᴰ.head refl
member (z ∷ l) (suc k) d h = Memᴰ.tail (member l k d (omega arith))

module _ {class₀ class list : List ℕ} (g : Keeping class₀ class list) {i : ℕ} (l : i < length list) {x : ℕ} (e : x ≡ get_or list i 0)
    (a : All (λ z. (z < length class₀) × (z < 2 ^ 14)) list) where
  pub keeping_fits : (x < length class) × (x < 2 ^ 14)
  keeping_fits =
      let f : (x < length class₀) × (x < 2 ^ 14) =
      subst (λ z. (z < length class₀) × (z < 2 ^ 14)) (sym e) (all_here (λ z. (z < length class₀) × (z < 2 ^ 14)) list i 0 a l) in
      (omega (arith, f.0, g.class_kept), f.1)

  pub keeping_more : Keeping class₀ (set class x (x + 1)) list
  keeping_more =
      record {
        class_kept = length-set class x (x + 1) ∙ g.class_kept;
        own = record {
          own = λ y h. elim (ℕ_discrete y x) [
            | yes z ↦ (
              subst (λ w. w ∈ list) (sym (z ∙ e)) (member list i 0 l),
              rw (z, get_or-set_same class x (x + 1) 0 keeping_fits.0),
            )
            | no z ↦ rw (get_or-set_other class x y (x + 1) 0 z) (g.own.own y (rw (get_or-set_other class x y (x + 1) 0 z) at h))
          ];
        };
      }

-- `sort_names`
pub named-sorts : {s order : List ℕ} {named : ℕ} → Named s order named (name_count s) → length (take named order) ≡ named
named-sorts {s} {order} {named} g = length-take-le named order g.inside

pub sorted-fits : {s list : List ℕ} {m : ℕ} → Ordered s list → text_count s ≤ m → text_count s ≤ 2 ^ 14 → All (λ z. (z < m) × (z < 2 ^ 14)) list
sorted-fits {s} {list} {m} g l h = All_to (λ z. z < text_count s) (λ z. (z < m) × (z < 2 ^ 14)) list (λ z k. (omega (arith, k), omega (arith, k))) g.texts

module _ {s order after : List ℕ} {named count : ℕ} (g : Named s order named (name_count s)) (f : Sorts s (take named order) after count) where
  -- the list with its sorted beginning
  pub sorted-names : Sorted s (take count (after ++ drop named order)) (name_count s)
  sorted-names =
      rw (take-append-le count after (drop named order) f.inside) (record { ordered = f.ordered; tells = λ x. f.tells x ∙ g.tells x })

  pub sorted-inside : count ≤ length (after ++ drop named order)
  sorted-inside = omega (arith, length-append after (drop named order), f.inside)

-- a text of a list in order is the one that is found for its bytes
pub own-told : {s class list : List ℕ} → Sorted s list (name_count s) → Own class list → Told s class (name_count s)
own-told {s} {class} {list} g o =
    record {
      told = λ x l h.
          sym (g.tells x)
          ∙ All-at (λ z. alike (decode s) z list ≡ Some z) list
          (All-places (λ z. alike (decode s) z list ≡ Some z) list 0
          (λ k m. rising-found (decode s) (get_or list k 0) list k g.ordered.rising m refl))
          (o.own x h).0
          ∙ ap Some (omega (arith, (o.own x h).1));
    }

-- `sorted_class`
module _ {s list : List ℕ} (g : Sorted s list (name_count s)) {x : ℕ} {r : std.Option ℕ} (k : Looked s list x r) where
  sorted-told : class_of (decode s) x ≡ number_or x r
  unfolding class_of
  sorted-told =
      ap (number_or x)
      (ap (alike (decode s) x) (sym (take_all (name_count s) (name_texts (decode s)) (omega (arith, many-names s)))) ∙ sym (g.tells x) ∙ k.answer)

  either : (o : std.Option ℕ) → number_or x o ≡ std.unwrap_or o x
  unfolding number_or
  either std.None = refl
  either (std.Some z) = refl

  pub sorted-class : std.unwrap_or r x ≡ class_of (decode s) x
  sorted-class = sym (sorted-told ∙ either r)

-- `class_all`
pub record Classing (s class₀ class : List ℕ) (x : ℕ) : Type 0 where
  pub inside : x ≤ text_count s
  pub length-kept : length class ≡ length class₀
  pub done : Kept s class x
  pub right : (y : ℕ) → y < text_count s → 0 < get_or class y 0 → get_or class y 0 ≡ suc (class_of (decode s) y)

pub classing_start : {s class : List ℕ} → Told s class (name_count s) → Classing s class class 0
classing_start g =
    record { inside = omega arith; length-kept = refl; done = record { kept = λ x l. absurd (omega arith) }; right = λ y l h. told-final g l h }

module _ {s class₀ class : List ℕ} {x : ℕ} (g : Classing s class₀ class x) (l : x < text_count s) where
  pub classing_known : (get_or class x 0 ≡ 0 → ⊥) → Classing s class₀ class (x + 1)
  classing_known f =
      record {
        inside = omega arith;
        length-kept = g.length-kept;
        done = record { kept = λ y h. elim (ℕ_discrete y x) [ yes z ↦ rw z (g.right x l (positive (get_or class x 0) f)) | no z ↦ g.done.kept y (omega (arith, z)) ] };
        right = g.right;
      }

  pub classing_more : text_count s ≤ length class₀ → {r : ℕ} → r ≡ class_of (decode s) x → Classing s class₀ (set class x (r + 1)) (x + 1)
  classing_more m {r} e =
      record {
        inside = omega arith;
        length-kept = length-set class x (r + 1) ∙ g.length-kept;
        done = record { kept = λ y h. elim (ℕ_discrete y x) [ yes z ↦ own y z | no z ↦ rw (get_or-set_other class x y (r + 1) 0 z) (g.done.kept y (omega (arith, z))) ] };
        right = λ y h q. elim (ℕ_discrete y x) [ yes z ↦ own y z | no z ↦ rw (get_or-set_other class x y (r + 1) 0 z) (g.right y h (rw (get_or-set_other class x y (r + 1) 0 z) at q)) ];
      }
    where
      own : (y : ℕ) → y ≡ x → get_or (set class x (r + 1)) y 0 ≡ suc (class_of (decode s) y)
      own y z = rw (z, get_or-set_same class x (r + 1) 0 (omega (arith, g.length-kept)), ← e) (omega arith)

pub classing_done : {s class₀ class : List ℕ} {x : ℕ} → Classing s class₀ class x → text_count s ≤ x → Kept s class (text_count s)
classing_done {s} {class₀} {class} {x} g l = let z : x ≡ text_count s = omega (arith, g.inside) in subst (Kept s class) z g.done
