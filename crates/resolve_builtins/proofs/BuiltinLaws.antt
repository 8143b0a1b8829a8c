-- The place of a text in the table of builtins, word after word.
use Rattle.std.specs.Prelude.{Option, Some, None}
use mathlib.Core.Path.{◌≡◌, refl, ap, sym, ◌∙◌}
use mathlib.Core.Bool.{Bool, true, false, cond}
use mathlib.Core.List.{List, [], ◌∷◌}
use Prim.Native.Nat.{ℕ, suc, ◌+◌, ◌≤◌, ◌<◌}
use native.Mathlib.Omega.{arith}
use lib.Dec.{eqb, leb, ltb}
use lib.ListN.{length, get_or}
use Rattle.std.proofs.lemmas.List.Recursion.{is_position_or_len}
use Rattle.std.specs.List.{position, position_or_len}
use borrow.Author.Tests.{ne_eqb, leb-true, ltb-true, ltb-false}
use Rattle.semantics.specs.Base.{all, every, first, numbered, or_else, only, ◌>>=◌}
use Rattle.semantics.specs.Tree.{Text, same}
use Rattle.semantics.specs.Words.{globals}
use Rattle.semantics.specs.Resolution.{place_of}
use Rattle.semantics.proofs.BaseLaws.{true≢false, and_left, and_right, same-equal, length_differs, all-holds}
use Rattle.semantics.proofs.ResolutionLaws.{place-few}
use Rattle.image_fields.specs.Inside.Numbers.{number_or}
use Rattle.resolve_builtins.specs.Inside.Places.{place_number}

-- the place of the first word that equals a text, or the number of words
unfoldable pub place_in : Text → List Text → ℕ
place_in x [] = 0
place_in x (w ∷ ws) = cond (same x w) 0 (suc (place_in x ws))

-- the place among the words is the place that the definition finds
place-from : (x : Text) (i d : ℕ) (ws : List Text) → d ≡ i + length ws → i + place_in x ws ≡ number_or d (first (λ g. same x g.1) (numbered i ws) >>= λ g. Some g.0)
unfolding place_in number_or first numbered or_else only ◌>>=◌
place-from x i d [] e = sym e
place-from x i d (w ∷ ws) e = go (same x w) (place-from x (suc i) d ws (omega arith))
  where
    go : (b : Bool) → suc i + place_in x ws ≡ number_or d (first (λ g. same x g.1) (numbered (suc i) ws) >>= λ g. Some g.0) → i + cond b 0 (suc (place_in x ws)) ≡ number_or d (or_else (only b (i, w)) (first (λ g. same x g.1) (numbered (suc i) ws)) >>= λ g. Some g.0)
    go true h = omega arith
    go false h = let z : i + suc (place_in x ws) ≡ suc i + place_in x ws = omega arith in z ∙ h

pub many : length globals ≡ 22
unfolding globals
many = refl

place-number : (x : Text) → place_in x globals ≡ place_number x
unfolding place_number place_of
place-number x = let z : place_in x globals ≡ 0 + place_in x globals = omega arith in z ∙ place-from x 0 22 globals (omega (arith, many))

-- the number stands for the place that was found, 22 for none
place_found : (x : Text) {k : ℕ} → k ≡ place_number x → k < 22 → place_of x ≡ (Some k)
unfolding place_number number_or
place_found x {k} e l = go (place_of x) e
  where
    go : (o : Option ℕ) → k ≡ number_or 22 o → o ≡ Some k
    go None q = absurd (omega (arith, l, q))
    go (Some m) q = ap Some (sym q)

place_missing : (x : Text) → 22 ≡ place_number x → place_of x ≡ None
unfolding place_number number_or
place_missing x e = go (place_of x) refl e
  where
    go : (o : Option ℕ) → place_of x ≡ o → 22 ≡ number_or 22 o → o ≡ None
    go None f q = refl
    go (Some m) f q = absurd (omega (arith, q, place-few x m f))

-- a text that is longer than each word is none of them
all_short : every (λ w. leb (length w) 14) globals ≡ true
unfolding every globals
all_short = refl

none_so_long : (x : Text) (ws : List Text) → every (λ w. leb (length w) 14) ws ≡ true → 14 < length x → place_in x ws ≡ length ws
unfolding place_in every
none_so_long x [] h l = refl
none_so_long x (w ∷ ws) h l =
    let s : length w ≤ 14 = leb-true _ _ (and_left (leb (length w) 14) (every (λ w. leb (length w) 14) ws) h) in
    let d : same x w ≡ false = length_differs x w (λ e. omega (arith, e, s, l)) in
    rw d (ap suc (none_so_long x ws (and_right (leb (length w) 14) (every (λ w. leb (length w) 14) ws) h) l))

pub too_long : (x : Text) → 14 < length x → place_of x ≡ None
too_long x l = place_missing x (sym many ∙ sym (none_so_long x globals all_short l) ∙ place-number x)

-- the first of the words that is the text stands at its place
first_place : (x : Text) → position_or_len (same x) globals ≡ place_number x
unfolding place_in
first_place x = sym (is_position_or_len (place_in x) (same x) refl (λ w ws. let z : suc (place_in x ws) ≡ 1 + place_in x ws = omega arith in ap (cond (same x w) 0) z) globals) ∙ place-number x

module _ (x : Text) where
  at_first : (n : ℕ) (b : Bool) → ltb n 22 ≡ b → n ≡ place_number x → {k : ℕ} → cond b (Some n) None ≡ Some k → place_of x ≡ (Some k)
  at_first n true q e {k} h = let z : n ≡ k = cc in place_found x (sym z ∙ e) (omega (arith, z, ltb-true n 22 q))
  at_first n false q e h = absurd (let z : ◌≡◌ {A = ℕ} 0 1 = cc in omega arith)

  at_most : place_number x ≤ 22
  unfolding place_number number_or
  at_most = go (place_of x) refl
    where
      go : (o : Option ℕ) → place_of x ≡ o → number_or 22 o ≤ 22
      go None f = omega arith
      go (Some m) f = omega (arith, place-few x m f)

  at_none : (n : ℕ) (b : Bool) → ltb n 22 ≡ b → n ≡ place_number x → cond b (Some n) None ≡ None → place_of x ≡ None
  at_none n true q e h = absurd (let z : ◌≡◌ {A = ℕ} 0 1 = cc in omega arith)
  at_none n false q e h = place_missing x (omega (arith, e, at_most, ltb-false n 22 q))

  position_found : {k : ℕ} → position (same x) globals ≡ Some k → place_of x ≡ (Some k)
  unfolding globals
  position_found h = at_first _ _ refl (first_place x) h

  position_missing : position (same x) globals ≡ None → place_of x ≡ None
  unfolding globals
  position_missing h = at_none _ _ refl (first_place x) h

-- the first of the words that is the text, if one is, is at the text's place
pub place_as : (x : Text) (o : Option ℕ) → position (same x) globals ≡ o → place_of x ≡ o
place_as x (Some k) h = position_found x h
place_as x None h = position_missing x h

-- the word at a text's place is the text
word_there : (x : Text) (ws : List Text) → place_in x ws < length ws → same x (get_or ws (place_in x ws) []) ≡ true
unfolding place_in
word_there x [] h = absurd (omega arith)
word_there x (w ∷ ws) h = go (same x w) refl h (word_there x ws)
  where
    go : (b : Bool) → same x w ≡ b → cond b 0 (suc (place_in x ws)) < suc (length ws)
        → (place_in x ws < length ws → same x (get_or ws (place_in x ws) []) ≡ true) → same x (get_or (w ∷ ws) (cond b 0 (suc (place_in x ws))) []) ≡ true
    go true q l f = q
    go false q l f = f (omega arith)

-- each word stands at one place only
once : all (λ p. eqb (place_number (get_or globals p [])) p) 22 ≡ true
unfolding all place_number place_of globals number_or first numbered or_else only ◌>>=◌ same
once = refl

at_its_place : (x : Text) (p : ℕ) → p < 22 → eqb (place_number x) p ≡ same x (get_or globals p [])
at_its_place x p l = go (same x (get_or globals p [])) refl
  where
    go : (b : Bool) → same x (get_or globals p []) ≡ b → eqb (place_number x) p ≡ b
    go true q = rw (same-equal x (get_or globals p []) q) (all-holds (λ p. eqb (place_number (get_or globals p [])) p) 22 p once l)
    go false q = ne_eqb (place_number x) p λ e.
        let z : place_in x globals ≡ p = place-number x ∙ e in
        true≢false (rw z at (word_there x globals (omega (arith, many, z)))) q

-- `is_builtin`
module _ (x : Text) (p : ℕ) (l : p < 22) (r : Option ℕ) (e : place_of x ≡ r) where
  pub found_there : {k : ℕ} → r ≡ Some k → eqb k p ≡ same x (get_or globals p [])
  unfolding place_number number_or
  found_there {k} h = let z : place_number x ≡ k = rw (e, h) in rw (← z) (at_its_place x p l)

  pub found_nowhere : r ≡ None → false ≡ same x (get_or globals p [])
  unfolding place_number number_or
  found_nowhere h = let z : place_number x ≡ 22 = rw (e, h) in sym (ne_eqb (place_number x) p (λ q. absurd (omega (arith, z, q, l)))) ∙ at_its_place x p l
