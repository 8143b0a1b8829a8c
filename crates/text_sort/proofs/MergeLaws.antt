-- Two lists of texts in order merged into one, turn by turn.
use Rattle.std.specs.Prelude.{Option, Some, None}
use mathlib.Core.Path.{◌≡◌, refl, ap, sym, subst, ◌∙◌}
use mathlib.Core.Bool.{Bool, true, false}
use mathlib.Core.List.{List, [], ◌∷◌, ◌++◌, append-nil}
use Prim.Native.Nat.{ℕ, suc, ◌+◌, ◌≤◌, ◌<◌}
use native.Mathlib.Numerals.{add-one}
use native.Mathlib.Omega.{arith}
use lib.ListN.{length, get_or, set, take, drop, length-set, drop_of_length-le}
use lib.Seq.{append_snoc, drop-cons, split_at, take-suc-set}
use Rattle.std.specs.declared.cmp.Ordering.{Ordering}
use Rattle.std.specs.declared.cmp.Ordering.TheVariants.{Less, Equal, Greater}
use Rattle.semantics.specs.Base.{only, or_else, All}
use Rattle.semantics.specs.Tree.{Tree, Text, text_at, same}
use Rattle.semantics.proofs.BaseLaws.{same-equal, All-++, All-left, All_right, All_to}
use Rattle.image_fields.specs.Image.{text_count, decode}
use Rattle.resolve_laws.specs.Inside.Classes.{alike}
use Rattle.resolve_laws.proofs.ClassLaws.{alike_nil, alike_cons, alike_append, alike-one}
use Rattle.text_order.specs.Inside.Order.{compared, Rising, Ordered}
use Rattle.text_order.proofs.CompareLaws.{compared_same, compared-turned, compared_trans, apart}
use Rattle.text_order.proofs.RisingLaws.{rising_insert, alike-apart, all_here}
use Rattle.text_sort.specs.Inside.Sorts.{Stands, Merges}

-- options one after the other
or_assoc : {A : Type 0} (a b c : Option A) → or_else (or_else a b) c ≡ or_else a (or_else b c)
unfolding or_else
or_assoc None b c = refl
or_assoc (Some x) b c = refl

or_nothing : {A : Type 0} (a : Option A) → or_else a None ≡ a
unfolding or_else
or_nothing None = refl
or_nothing (Some x) = refl

-- one that could only be told where the other tells nothing may come first
or_swap : {A : Type 0} (b : Bool) (y : A) (l r : Option A) → (b ≡ true → l ≡ None) → or_else l (or_else (only b y) r) ≡ or_else (only b y) (or_else l r)
unfolding or_else only
or_swap true y None r h = refl
or_swap true y (Some x) r h = ap (λ o. or_else o (Some y)) (h refl)
or_swap false y l r h = refl

-- the second of two that pass the same test adds nothing
or_again : {A : Type 0} (b : Bool) (x y : A) (l r : Option A) → or_else (or_else (only b x) l) (or_else (only b y) r) ≡ or_else (or_else (only b x) l) r
unfolding or_else only
or_again true x y l r = refl
or_again false x y l r = refl

module _ (t : Tree) where
  abbrev Before : ℕ → ℕ → Type 0
  Before z w = compared (text_at t z) (text_at t w) ≡ Less

  -- what stands before a text of a list in order, and behind it
  rising-below : (p : List ℕ) (x : ℕ) (l : List ℕ) → Rising t (p ++ x ∷ l) → All (λ z. Before z x) p
  rising-below [] x l g = tt
  rising-below (z ∷ p) x l g = ((All_right (Before z) p (x ∷ l) g.0).0, rising-below p x l g.1)

  rising_above : (p : List ℕ) (x : ℕ) (l : List ℕ) → Rising t (p ++ x ∷ l) → All (Before x) l
  rising_above [] x l g = g.0
  rising_above (z ∷ p) x l g = rising_above p x l g.1

  -- one text less
  rising_without : (p : List ℕ) (x : ℕ) (l : List ℕ) → Rising t (p ++ x ∷ l) → Rising t (p ++ l)
  rising_without [] x l g = g.1
  rising_without (z ∷ p) x l g = (
    All-++ (Before z) p l (All-left (Before z) p (x ∷ l) g.0) (All_right (Before z) p (x ∷ l) g.0).1,
    rising_without p x l g.1,
  )

  -- what was taken so far, and what is left of two lists
  pub record State (a b p l r : List ℕ) : Type 0 where
    pub left : Rising t (p ++ l)
    pub right : Rising t (p ++ r)
    pub tells : (y : ℕ) → or_else (alike t y p) (or_else (alike t y l) (alike t y r)) ≡ or_else (alike t y a) (alike t y b)

  pub state-start : (a b : List ℕ) → Rising t a → Rising t b → State a b [] a b
  unfolding or_else
  state-start a b f g = record { left = f; right = g; tells = λ y. ap (λ o. or_else o (or_else (alike t y a) (alike t y b))) (alike_nil t y) }

  -- the next of the first list
  pub take_left : {a b p r : List ℕ} (x : ℕ) (l : List ℕ) → State a b p (x ∷ l) r → All (Before x) r → State a b (p ++ (x ∷ [])) l r
  take_left {a} {b} {p} {r} x l g h =
      record {
        left = subst (Rising t) (sym (append_snoc p x l)) g.left;
        right = subst (Rising t) (sym (append_snoc p x r)) (rising_insert t x p r g.right (rising-below p x l g.left) h);
        tells = λ y.
            ap (λ o. or_else o (or_else (alike t y l) (alike t y r))) (alike_append t y p (x ∷ []))
            ∙ or_assoc (alike t y p) (alike t y (x ∷ [])) (or_else (alike t y l) (alike t y r))
            ∙ ap (or_else (alike t y p)) (sym (or_assoc (alike t y (x ∷ [])) (alike t y l) (alike t y r)) ∙ ap (λ o. or_else o (alike t y r)) (sym (alike_append t y (x ∷ []) l)))
            ∙ g.tells y;
      }

  -- the next of the second
  pub take_right : {a b p l : List ℕ} (x : ℕ) (r : List ℕ) → State a b p l (x ∷ r) → All (Before x) l → State a b (p ++ (x ∷ [])) l r
  take_right {a} {b} {p} {l} x r g h =
      record {
        left = subst (Rising t) (sym (append_snoc p x l)) (rising_insert t x p l g.left (rising-below p x r g.right) h);
        right = subst (Rising t) (sym (append_snoc p x r)) g.right;
        tells = λ y.
            ap (λ o. or_else o (or_else (alike t y l) (alike t y r))) (alike_append t y p (x ∷ []))
            ∙ or_assoc (alike t y p) (alike t y (x ∷ [])) (or_else (alike t y l) (alike t y r))
            ∙ ap (or_else (alike t y p)) (turned y)
            ∙ g.tells y;
      }
    where
      turned : (y : ℕ) → or_else (alike t y (x ∷ [])) (or_else (alike t y l) (alike t y r)) ≡ or_else (alike t y l) (alike t y (x ∷ r))
      turned y =
          ap (λ o. or_else o (or_else (alike t y l) (alike t y r))) (alike-one t y x)
          ∙ sym (or_swap (same (text_at t y) (text_at t x)) x (alike t y l) (alike t y r) absent)
          ∙ ap (or_else (alike t y l)) (sym (alike_cons t y x r))
        where
          absent : same (text_at t y) (text_at t x) ≡ true → alike t y l ≡ None
          absent q = alike-apart t y l (All_to (Before x) (λ z. text_at t y ≡ text_at t z → ⊥) l (λ z w e. apart w (sym (same-equal (text_at t y) (text_at t x) q) ∙ e)) h)

  -- the same bytes in both: the next of the first, and that of the second goes
  pub take-both : {a b p : List ℕ} (x y : ℕ) (l r : List ℕ) → State a b p (x ∷ l) (y ∷ r) → text_at t x ≡ text_at t y → State a b (p ++ (x ∷ [])) l r
  take-both {a} {b} {p} x y l r g e =
      take_left x l without (All_to (Before y) (Before x) r (λ z q. subst (λ u. compared u (text_at t z) ≡ Less) (sym e) q) (rising_above p y r g.right))
    where
      without : State a b p (x ∷ l) r
      without =
          record {
            left = g.left;
            right = rising_without p y r g.right;
            tells = λ q. ap (or_else (alike t q p)) (sym (gone q)) ∙ g.tells q;
          }
        where
          gone : (q : ℕ) → or_else (alike t q (x ∷ l)) (alike t q (y ∷ r)) ≡ or_else (alike t q (x ∷ l)) (alike t q r)
          gone q =
              rw (alike_cons t q x l, alike_cons t q y r, e) (or_again (same (text_at t q) (text_at t y)) x y (alike t q l) (alike t q r))

  pub state-done : {a b p l r : List ℕ} → State a b p l r → l ≡ [] → r ≡ [] → Rising t p × ((y : ℕ) → alike t y p ≡ or_else (alike t y a) (alike t y b))
  unfolding or_else
  state-done {a} {b} {p} {l} {r} g e f = (
    subst (Rising t) (append-nil p) (subst (λ z. Rising t (p ++ z)) e g.left),
    λ y. sym (ap (or_else (alike t y p)) (nothing y) ∙ or_nothing (alike t y p)) ∙ g.tells y,
  )
    where
      nothing : (y : ℕ) → or_else (alike t y l) (alike t y r) ≡ None
      nothing y = rw (e, f, alike_nil t y) refl

-- a number of a list in order is a text's
pub run-text : {s a : List ℕ} → Ordered s a → (i : ℕ) → i < length a → get_or a i 0 < text_count s
run-text {s} {a} f i l = all_here (λ z. z < text_count s) a i 0 f.texts l

-- the next texts of two lists
module _ {s a b : List ℕ} (f : Ordered s a) (h : Ordered s b) {i j : ℕ} where
  -- one of the lists has come to its end
  pub stands-second : i + j < length a + length b → length a ≡ i → Stands s a b i j Greater
  stands-second l e =
      record {
        first_next = λ z. absurd cc;
        both-next = λ z. absurd cc;
        second-next = λ z. (omega arith, rw (drop_of_length-le a {i = i} (omega arith)) tt);
      }

  pub stands-first : i + j < length a + length b → length b ≡ j → Stands s a b i j Less
  stands-first l e =
      record {
        first_next = λ z. (omega arith, rw (drop_of_length-le b {i = j} (omega arith)) tt);
        both-next = λ z. absurd cc;
        second-next = λ z. absurd cc;
      }

  -- both go on, and the comparison of their next texts decides
  module _ (l : i < length a) (n : j < length b) {u v : Text} (p : u ≡ text_at (decode s) (get_or a i 0)) (q : v ≡ text_at (decode s) (get_or b j 0)) {r : Ordering} (c : r ≡ compared u v) where
    there : r ≡ compared (text_at (decode s) (get_or a i 0)) (text_at (decode s) (get_or b j 0))
    there = c ∙ rw (p, q) refl

    pub stands-compared : Stands s a b i j r
    stands-compared =
        record {
          first_next = λ e. (l, ahead_of b j n h.rising (text_at (decode s) (get_or a i 0)) (sym there ∙ e));
          both-next = λ e. ((l, n), compared_same (text_at (decode s) (get_or a i 0)) (text_at (decode s) (get_or b j 0)) (sym there ∙ e));
          second-next = λ e. (
            n,
            ahead_of a i l f.rising (text_at (decode s) (get_or b j 0))
                (compared-turned (text_at (decode s) (get_or a i 0)) (text_at (decode s) (get_or b j 0)) (sym there ∙ e)),
          );
        }
      where
        -- what is before a text of a list in order is before all that follow it
        ahead_of : (list : List ℕ) (k : ℕ) → k < length list → Rising (decode s) list → (w : Text) → compared w (text_at (decode s) (get_or list k 0)) ≡ Less
            → All (λ z. compared w (text_at (decode s) z) ≡ Less) (drop k list)
        ahead_of list k m g w e =
            rw (drop-cons list k 0 m) (
              e,
              All_to (λ z. compared (text_at (decode s) (get_or list k 0)) (text_at (decode s) z) ≡ Less) (λ z. compared w (text_at (decode s) z) ≡ Less) (drop (suc k) list)
                  (λ z q. compared_trans w (text_at (decode s) (get_or list k 0)) (text_at (decode s) z) e q)
                  (rising_above (decode s) (take k list) (get_or list k 0) (drop (suc k) list) (subst (Rising (decode s)) (split_at list k 0 m) g)),
            )

-- the loop of `merge`
pub record Merging (s a b out₀ out : List ℕ) (i j k : ℕ) : Type 0 where
  pub first : i ≤ length a
  pub second : j ≤ length b
  pub few : k ≤ i + j
  pub kept : length out ≡ length out₀
  pub texts : All (λ z. z < text_count s) (take k out)
  pub state : State (decode s) a b (take k out) (drop i a) (drop j b)

pub merging_start : {s a b : List ℕ} (out : List ℕ) → Ordered s a → Ordered s b → Merging s a b out out 0 0 0
merging_start {s} {a} {b} out f g =
    record { first = omega arith; second = omega arith; few = omega arith; kept = refl; texts = tt; state = state-start (decode s) a b f.rising g.rising }

module _ {s a b out₀ out : List ℕ} {i j k : ℕ} (g : Merging s a b out₀ out i j k) (f : Ordered s a) (h : Ordered s b) (m : length a + length b ≤ length out₀) where
  pub merging_fits : i + j < length a + length b → k < length out
  merging_fits l = omega (arith, g.few, g.kept)

  -- one number more is written
  more : (x : ℕ) → x < text_count s → k < length out → {i' j' : ℕ} → i' ≤ length a → j' ≤ length b → k + 1 ≤ i' + j'
      → State (decode s) a b (take k out ++ (x ∷ [])) (drop i' a) (drop j' b) → Merging s a b out₀ (set out k x) i' j' (k + 1)
  more x u l p q r z =
      record {
        first = p;
        second = q;
        few = r;
        kept = length-set out k x ∙ g.kept;
        texts = rw (add-one, take-suc-set out k x l) (All-++ (λ z. z < text_count s) (take k out) (x ∷ []) g.texts (u, tt));
        state = rw (add-one, take-suc-set out k x l) z;
      }

  here_first : i < length a → State (decode s) a b (take k out) (get_or a i 0 ∷ drop (suc i) a) (drop j b)
  here_first l = subst (λ z. State (decode s) a b (take k out) z (drop j b)) (drop-cons a i 0 l) g.state

  here_second : j < length b → State (decode s) a b (take k out) (drop i a) (get_or b j 0 ∷ drop (suc j) b)
  here_second l = subst (State (decode s) a b (take k out) (drop i a)) (drop-cons b j 0 l) g.state

  module _ (l : i + j < length a + length b) {r : Ordering} (e : Stands s a b i j r) {x : ℕ} where
    pub merging_second : r ≡ Greater → x ≡ get_or b j 0 → Merging s a b out₀ (set out k x) i (j + 1) (k + 1)
    merging_second q p =
        rw p
        (more (get_or b j 0) (run-text h j (e.second-next q).0) (merging_fits l) g.first (omega (arith, (e.second-next q).0)) (omega (arith, g.few))
        (rw add-one (take_right (decode s) (get_or b j 0) (drop (suc j) b) (here_second (e.second-next q).0) (e.second-next q).1)))

    pub merging_both : r ≡ Equal → x ≡ get_or a i 0 → Merging s a b out₀ (set out k x) (i + 1) (j + 1) (k + 1)
    merging_both q p =
        let m : i < length a = (e.both-next q).0.0 in
        let n : j < length b = (e.both-next q).0.1 in
        let suc-i : i + 1 ≡ suc i = add-one i in
        let suc-j : j + 1 ≡ suc j = add-one j in
        rw p
        (more (get_or a i 0) (run-text f i m) (merging_fits l) (omega arith) (omega arith) (omega (arith, g.few))
        (rw (suc-i, suc-j) (take-both (decode s) (get_or a i 0) (get_or b j 0) (drop (suc i) a) (drop (suc j) b)
        (subst (State (decode s) a b (take k out) (get_or a i 0 ∷ drop (suc i) a)) (drop-cons b j 0 n) (here_first m)) (e.both-next q).1)))

    pub merging_first : r ≡ Less → x ≡ get_or a i 0 → Merging s a b out₀ (set out k x) (i + 1) j (k + 1)
    merging_first q p =
        rw p
        (more (get_or a i 0) (run-text f i (e.first_next q).0) (merging_fits l) (omega (arith, (e.first_next q).0)) g.second (omega (arith, g.few))
        (rw add-one (take_left (decode s) (get_or a i 0) (drop (suc i) a) (here_first (e.first_next q).0) (e.first_next q).1)))

  pub merging_done : length a + length b ≤ i + j → Merges s a b out k
  merging_done l =
      let d : Rising (decode s) (take k out) × ((y : ℕ) → alike (decode s) y (take k out) ≡ or_else (alike (decode s) y a) (alike (decode s) y b)) =
      state-done (decode s) g.state (drop_of_length-le a {i = i} (omega (arith, g.first, g.second))) (drop_of_length-le b {i = j} (omega (arith, g.first, g.second))) in
      record { inside = omega (arith, g.few, g.kept, g.first, g.second); few = omega (arith, g.few, g.first, g.second); ordered = record { texts = g.texts; rising = d.0 }; tells = d.1 }
