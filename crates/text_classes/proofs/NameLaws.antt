-- What names tell of texts: the first of them that has a text's bytes, after n names and after one more.
use Rattle.std.specs.Prelude.{Option, Some, None}
use mathlib.Core.Path.{◌≡◌, refl, ap, sym, ◌∙◌}
use mathlib.Core.Bool.{Bool, true, false}
use mathlib.Core.List.{List, [], ◌∷◌}
use Prim.Native.Nat.{ℕ, suc, ◌+◌, ◌-◌, ◌≤◌, ◌<◌}
use native.Mathlib.Omega.{arith}
use native.Mathlib.Decide.{ℕ_discrete}
use native.Mathlib.Numerals.{add-one}
use lib.ListN.{length, get_or, set, take, drop, length-map, take-append-drop}
use lib.Seq.{take-suc, get_or-set_same, get_or-set_other}
use Rattle.semantics.specs.Base.{only, or_else, first, All}
use Rattle.semantics.specs.Tree.{Tree, no_name, name_at, text_at, same}
use Rattle.semantics.proofs.BaseLaws.{clash, same-equal, same_refl, All-places}
use Rattle.image_fields.specs.Image.{name_count, text_count, decode}
use Rattle.image_fields.specs.Inside.Numbers.{number_or}
use Rattle.image_fields.proofs.ImageLaws.{tree-names, tree-name}
use Rattle.image.specs.Inside.Accepted.{Accepted}
use Rattle.resolve_laws.specs.Inside.Classes.{alike, name_texts, class_of}
use Rattle.resolve_laws.proofs.ClassLaws.{alike_append, alike-one, alike-bytes, or-none, name_there}
use Rattle.text_classes.specs.Inside.Chains.{Clear, Told}
use Rattle.text_classes.proofs.ChainLaws.{alike_in}

-- the text of a name, and of all names, is one of the image's
pub name-text : {s : List ℕ} → Accepted s → {n x : ℕ} → n < name_count s → x ≡ (name_at (decode s) n).text → x < text_count s
name-text {s} a {n} h e = rw (e, tree-name s n h) (a.names n h).1

pub many-names : (s : List ℕ) → length (name_texts (decode s)) ≡ name_count s
many-names s = length-map (decode s).names (λ m. m.text) ∙ tree-names s

pub all-inside : {s : List ℕ} → Accepted s → All (λ z. z < text_count s) (name_texts (decode s))
all-inside {s} a =
    All-places (λ z. z < text_count s) (name_texts (decode s)) no_name.text
    (λ k l. name-text a {n = k} (omega (arith, many-names s)) (name_there (decode s) k))

pub class_inside : {s : List ℕ} → Accepted s → {x : ℕ} → x < text_count s → class_of (decode s) x < text_count s
unfolding class_of number_or
class_inside {s} a {x} l = go (alike (decode s) x (name_texts (decode s))) refl
  where
    go : (o : Option ℕ) → alike (decode s) x (name_texts (decode s)) ≡ o → number_or x o < text_count s
    go None q = l
    go (Some z) q = alike_in (λ w. w < text_count s) (decode s) x (name_texts (decode s)) (all-inside a) q

-- where there are no names each text is its own class
pub class_nameless : (s : List ℕ) → name_count s ≡ 0 → (x : ℕ) → class_of (decode s) x ≡ x
unfolding class_of number_or alike first
class_nameless s e x = go (name_texts (decode s)) (many-names s ∙ e)
  where
    go : (l : List ℕ) → length l ≡ 0 → number_or x (alike (decode s) x l) ≡ x
    go [] h = refl
    go (z ∷ l) h = absurd (omega (arith, h))

-- one name more
more : (t : Tree) (x : ℕ) (l : List ℕ) (n d : ℕ) → n < length l
    → alike t x (take (n + 1) l) ≡ or_else (alike t x (take n l)) (only (same (text_at t x) (text_at t (get_or l n d))) (get_or l n d))
more t x l n d h =
    ap (alike t x) (rw add-one (take-suc l n d h)) ∙ alike_append t x (take n l) (get_or l n d ∷ []) ∙ ap (or_else (alike t x (take n l))) (alike-one t x (get_or l n d))

-- of bytes that a name before it has
or_some : {A : Type 0} {z : A} (o p : Option A) → o ≡ Some z → or_else o p ≡ o
unfolding or_else
or_some None p q = absurd (clash q)
or_some (Some w) p q = refl

pub or-false : {A : Type 0} (o : Option A) (a : A) → or_else o (only false a) ≡ o
unfolding only
or-false o a = or-none o

pub again : (t : Tree) (x y : ℕ) (l : List ℕ) {z : ℕ} → alike t y l ≡ Some z → or_else (alike t x l) (only (same (text_at t x) (text_at t y)) y) ≡ alike t x l
again t x y l {z} h = go (same (text_at t x) (text_at t y)) refl
  where
    go : (b : Bool) → same (text_at t x) (text_at t y) ≡ b → or_else (alike t x l) (only b y) ≡ alike t x l
    go true q = or_some (alike t x l) (only true y) (alike-bytes t x y l (same-equal (text_at t x) (text_at t y) q) ∙ h)
    go false q = or-false (alike t x l) y

pub none_first : {A : Type 0} (a : A) → or_else None (only true a) ≡ Some a
unfolding or_else only
none_first a = refl

-- what the names tell with one more
pub names-one : (s : List ℕ) {n x : ℕ} → n < name_count s → x ≡ (name_at (decode s) n).text → (y : ℕ) → alike (decode s) y (take (n + 1) (name_texts (decode s)))
    ≡ or_else (alike (decode s) y (take n (name_texts (decode s)))) (only (same (text_at (decode s) y) (text_at (decode s) x)) x)
names-one s {n} {x} m e y =
    more (decode s) y (name_texts (decode s)) n no_name.text (omega (arith, many-names s))
    ∙ ap (λ z. or_else (alike (decode s) y (take n (name_texts (decode s)))) (only (same (text_at (decode s) y) (text_at (decode s) z)) z))
    (name_there (decode s) n ∙ sym e)

-- and where the names before have its bytes
pub no_change : (s : List ℕ) {n x z : ℕ} → n < name_count s → x ≡ (name_at (decode s) n).text → alike (decode s) x (take n (name_texts (decode s))) ≡ Some z
    → (y : ℕ) → alike (decode s) y (take (n + 1) (name_texts (decode s))) ≡ alike (decode s) y (take n (name_texts (decode s)))
no_change s {n} {x} m e f y = names-one s m e y ∙ again (decode s) y x (take n (name_texts (decode s))) f

-- `Told`: the classes that are kept
pub told_clear : {s class : List ℕ} → Clear class → Told s class 0
told_clear c = record { told = λ x l h. absurd (omega (arith, c.zero-at x)) }

-- what the first names tell is told by all
pub told-final : {s class : List ℕ} {n x : ℕ} → Told s class n → x < text_count s → 0 < get_or class x 0 → get_or class x 0 ≡ suc (class_of (decode s) x)
unfolding class_of number_or
told-final {s} {class} {n} {x} k l h =
    omega (
      arith,
      ap (number_or x)
          (ap (alike (decode s) x) (sym (take-append-drop n (name_texts (decode s)))) ∙ alike_append (decode s) x (take n (name_texts (decode s))) (drop n (name_texts (decode s)))
          ∙ or_some (alike (decode s) x (take n (name_texts (decode s)))) (alike (decode s) x (drop n (name_texts (decode s)))) (k.told x l h) ∙ k.told x l h),
    )

module _ {s class : List ℕ} {n : ℕ} (k : Told s class n) (m : n < name_count s) {x : ℕ} (e : x ≡ (name_at (decode s) n).text) where
  -- the names before this one have its bytes
  pub told_same : {z : ℕ} → alike (decode s) x (take n (name_texts (decode s))) ≡ Some z → Told s class (n + 1)
  told_same f = record { told = λ y l q. no_change s m e f y ∙ k.told y l q }

  module _ (a : Accepted s) (l : text_count s ≤ length class) where
    told-set : (v : ℕ) → alike (decode s) x (take (n + 1) (name_texts (decode s))) ≡ Some (v - 1) → Told s (set class x v) (n + 1)
    told-set v f =
        record { told = λ y h q. elim (ℕ_discrete y x) [ yes z ↦ own y z | no z ↦ rw (get_or-set_other class x y v 0 z) (other y h (rw (get_or-set_other class x y v 0 z) at q)) ] }
      where
        own : (y : ℕ) → y ≡ x → alike (decode s) y (take (n + 1) (name_texts (decode s))) ≡ Some (get_or (set class x v) y 0 - 1)
        own y z = rw (z, get_or-set_same class x v 0 (omega (arith, name-text a m e))) f

        other : (y : ℕ) → y < text_count s → 0 < get_or class y 0 → alike (decode s) y (take (n + 1) (name_texts (decode s))) ≡ Some (get_or class y 0 - 1)
        other y h q = names-one s m e y ∙ or_some (alike (decode s) y (take n (name_texts (decode s)))) _ (k.told y h q) ∙ k.told y h q

    pub told-found : (v : ℕ) → alike (decode s) x (take n (name_texts (decode s))) ≡ Some (v - 1) → Told s (set class x v) (n + 1)
    told-found v f = told-set v (no_change s m e f x ∙ f)

    -- no name before it has its bytes
    pub told_new : alike (decode s) x (take n (name_texts (decode s))) ≡ None → Told s (set class x (x + 1)) (n + 1)
    told_new f =
        told-set (x + 1)
        (names-one s m e x ∙ ap (λ o. or_else o (only (same (text_at (decode s) x) (text_at (decode s) x)) x)) f
        ∙ ap (λ b. or_else None (only b x)) (same_refl (text_at (decode s) x)) ∙ none_first x ∙ ap Some back)
      where
        back : x ≡ x + 1 - 1
        back = omega arith
