-- A text and a name's text have one class exactly when their bytes are the same.
use Rattle.std.specs.Prelude.{Option, Some, None}
use mathlib.Core.Path.{◌≡◌, refl, sym, ap, subst, ◌∙◌}
use mathlib.Core.Bool.{Bool, true, false}
use mathlib.Core.List.{List, [], ◌∷◌, ◌++◌}
use Prim.Native.Nat.{ℕ, zero, suc, ◌<◌}
use native.Mathlib.Omega.{arith}
use lib.Dec.{eqb}
use lib.ListN.{length, get_or, length-map, get_or-map}
use borrow.Author.Tests.{eq-eqb, ne_eqb}
use Rattle.semantics.specs.Base.{only, or_else, first}
use Rattle.semantics.specs.Tree.{Tree, no_name, name_at, text_at, same}
use Rattle.semantics.proofs.BaseLaws.{true≢false, clash, either, only-some, same-equal, same_refl}
use Rattle.image_fields.specs.Inside.Numbers.{number_or}
use Rattle.resolve_laws.specs.Inside.Classes.{alike, name_texts, class_of}

-- the look through some texts, one by one, from either end
pub alike_nil : (t : Tree) (x : ℕ) → alike t x [] ≡ None
unfolding alike first
alike_nil t x = refl

pub alike_cons : (t : Tree) (x z : ℕ) (l : List ℕ) → alike t x (z ∷ l) ≡ or_else (only (same (text_at t x) (text_at t z)) z) (alike t x l)
unfolding alike first
alike_cons t x z l = refl

or_assoc : {A : Type 0} (a b c : Option A) → or_else a (or_else b c) ≡ or_else (or_else a b) c
unfolding or_else
or_assoc None b c = refl
or_assoc (Some a) b c = refl

pub or-none : {A : Type 0} (a : Option A) → or_else a None ≡ a
unfolding or_else
or-none None = refl
or-none (Some a) = refl

pub alike_append : (t : Tree) (x : ℕ) (l r : List ℕ) → alike t x (l ++ r) ≡ or_else (alike t x l) (alike t x r)
unfolding alike first or_else
alike_append t x [] r = refl
alike_append t x (y ∷ l) r =
    ap (or_else (only (same (text_at t x) (text_at t y)) y)) (alike_append t x l r)
    ∙ or_assoc (only (same (text_at t x) (text_at t y)) y) (alike t x l) (alike t x r)

pub alike-one : (t : Tree) (x z : ℕ) → alike t x (z ∷ []) ≡ only (same (text_at t x) (text_at t z)) z
unfolding alike first
alike-one t x z = or-none (only (same (text_at t x) (text_at t z)) z)

-- it asks for bytes, and what it finds has them
pub alike-bytes : (t : Tree) (x y : ℕ) (l : List ℕ) → text_at t x ≡ text_at t y → alike t x l ≡ alike t y l
unfolding alike
alike-bytes t x y l e = ap (λ a. first (λ z. same a (text_at t z)) l) e

pub alike-some : (t : Tree) (x : ℕ) (l : List ℕ) (z : ℕ) → alike t x l ≡ Some z → text_at t x ≡ text_at t z
unfolding alike first
alike-some t x [] z h = absurd (clash h)
alike-some t x (y ∷ l) z h =
    either (only (same (text_at t x) (text_at t y)) y) h
    (λ g. only-some (same (text_at t x) (text_at t y)) g (λ b e. subst (λ v. text_at t x ≡ text_at t v) e (same-equal (text_at t x) (text_at t y) b)))
    (λ g. alike-some t x l z g)

or_left : {A : Type 0} (a : A) (b : Bool) (o : Option A) → b ≡ true → or_else (only b a) o ≡ None → ⊥
unfolding only or_else
or_left a true o h n = clash (sym n)
or_left a false o h n = true≢false h refl

or_right : {A : Type 0} (a o : Option A) → or_else a o ≡ None → o ≡ None
unfolding or_else
or_right None o n = n
or_right (Some a) o n = absurd (clash (sym n))

-- a text with these bytes is not passed over
pub alike_there : (t : Tree) (x : ℕ) (l : List ℕ) (k d : ℕ) → k < length l → text_at t x ≡ text_at t (get_or l k d) → alike t x l ≡ None → ⊥
unfolding alike first
alike_there t x [] k d h e n = absurd (omega arith)
alike_there t x (y ∷ l) zero d h e n =
    or_left y (same (text_at t x) (text_at t y)) (alike t x l) (subst (λ a. same (text_at t x) a ≡ true) e (same_refl (text_at t x))) n
alike_there t x (y ∷ l) (suc k) d h e n =
    alike_there t x l k d (omega arith) e (or_right (only (same (text_at t x) (text_at t y)) y) (alike t x l) n)

-- the text of a name is in the list of them
pub name_there : (t : Tree) (n : ℕ) → get_or (name_texts t) n no_name.text ≡ (name_at t n).text
unfolding name_at
name_there t n = get_or-map (λ m. m.text) t.names n no_name

module _ (t : Tree) where
  -- the bytes of a class
  pub class_bytes : (x : ℕ) → text_at t (class_of t x) ≡ text_at t x
  unfolding class_of number_or
  class_bytes x = go (alike t x (name_texts t)) refl
    where
      go : (o : Option ℕ) → alike t x (name_texts t) ≡ o → text_at t (number_or x o) ≡ text_at t x
      go None q = refl
      go (Some z) q = sym (alike-some t x (name_texts t) z q)

  -- texts with the same bytes, one of them a name's
  class_same : (x n : ℕ) → n < length t.names → text_at t x ≡ text_at t (name_at t n).text → class_of t x ≡ class_of t (name_at t n).text
  unfolding class_of number_or
  class_same x n l e = go (alike t x (name_texts t)) refl (alike-bytes t x (name_at t n).text (name_texts t) e)
    where
      there : n < length (name_texts t)
      there = omega (arith, length-map t.names (λ m. m.text))

      go : (o : Option ℕ) → alike t x (name_texts t) ≡ o → alike t x (name_texts t) ≡ alike t (name_at t n).text (name_texts t)
          → number_or x (alike t x (name_texts t)) ≡ number_or (name_at t n).text (alike t (name_at t n).text (name_texts t))
      go None q r = absurd (alike_there t x (name_texts t) n no_name.text there (e ∙ ap (text_at t) (sym (name_there t n))) q)
      go (Some z) q r = ap (number_or x) q ∙ sym (ap (number_or (name_at t n).text) (sym r ∙ q))

  -- THE LAW
  pub classes : (x n : ℕ) → n < length t.names → same (text_at t x) (text_at t (name_at t n).text) ≡ eqb (class_of t x) (class_of t (name_at t n).text)
  classes x n l = go (same (text_at t x) (text_at t (name_at t n).text)) refl
    where
      go : (b : Bool) → same (text_at t x) (text_at t (name_at t n).text) ≡ b → b ≡ eqb (class_of t x) (class_of t (name_at t n).text)
      go true q = sym (eq-eqb (class_of t x) (class_of t (name_at t n).text) (class_same x n l (same-equal (text_at t x) (text_at t (name_at t n).text) q)))
      go false q = sym (ne_eqb (class_of t x) (class_of t (name_at t n).text)
          (λ e. true≢false
          (subst (λ z. same z (text_at t (name_at t n).text) ≡ true)
          (sym (sym (class_bytes x) ∙ ap (text_at t) e ∙ class_bytes (name_at t n).text)) (same_refl (text_at t (name_at t n).text))) q))
