-- Printing on a page: text by text, and line by line in a loop.
use mathlib.Core.Path.{◌≡◌, refl, ap, sym, subst, ◌∙◌}
use mathlib.Core.List.{List, [], ◌∷◌, ◌++◌, append_assoc, append-nil}
use Prim.Native.Nat.{ℕ, zero, suc, ◌+◌, ◌≤◌, ◌<◌}
use native.Mathlib.Numerals.{add-one}
use native.Mathlib.Omega.{arith}
use lib.ListN.{length, get_or, set, take}
use borrow.Author.Tests.{lt-ltb, le-ltb}
use Rattle.std.proofs.lemmas.List.{take_more}
use Rattle.semantics.specs.Base.{each}
use Rattle.survey_lines.specs.Text.{lines}
use Rattle.survey_lines.specs.Inside.Page.{typed, print, Printed}
use Rattle.survey_lines.specs.declared.text.Page.{Page}

pub typed-room : (b : ℕ) (p : Page) → p.at < length p.out.now → Printed (b ∷ []) p (record { out = record p.out { now = set p.out.now p.at b }; at = p.at + 1 })
unfolding print typed
typed-room b p h = record { shows = rw (lt-ltb p.at (length p.out.now) h) }

pub typed_full : (b : ℕ) (p : Page) → length p.out.now ≤ p.at → Printed (b ∷ []) p p
unfolding print typed
typed_full b p h = record { shows = rw (le-ltb p.at (length p.out.now) h) }

pub nothing : {p : Page} → Printed [] p p
unfolding print
nothing = record { shows = refl }

print_append : (a b : List ℕ) (p : Page) → print (a ++ b) p ≡ print b (print a p)
unfolding print
print_append [] b p = refl
print_append (x ∷ a) b p = print_append a b (typed x p)

-- a text and then another
pub both : {a b : List ℕ} {p q r : Page} → Printed a p q → Printed b q r → Printed (a ++ b) p r
both {a} {b} {p} e f = record { shows = f.shows ∙ ap (print b) e.shows ∙ sym (print_append a b p) }

-- the same text in other words
pub reads_as : {a b : List ℕ} {p q : Page} → a ≡ b → Printed a p q → Printed b p q
reads_as {p = p} {q = q} e h = subst (λ l. Printed l p q) e h

-- a list's texts, by their places
lines_later : (f : ℕ → List ℕ) (x : ℕ) (xs : List ℕ) (i n : ℕ) → lines (λ j. f (get_or (x ∷ xs) j 0)) (suc i) n ≡ lines (λ j. f (get_or xs j 0)) i n
unfolding lines
lines_later f x xs i zero = refl
lines_later f x xs i (suc n) = ap (λ l. f (get_or xs i 0) ++ l) (lines_later f x xs (suc i) n)

pub each-lines : (f : ℕ → List ℕ) (xs : List ℕ) → lines (λ i. f (get_or xs i 0)) 0 (length xs) ≡ each f xs
unfolding lines each
each-lines f [] = refl
each-lines f (x ∷ xs) = ap (λ l. f x ++ l) (lines_later f x xs 0 (length xs) ∙ each-lines f xs)

lines_last : (f : ℕ → List ℕ) (i n : ℕ) → lines f i (suc n) ≡ lines f i n ++ f (i + n)
unfolding lines
lines_last f i zero = let e : i + 0 ≡ i = omega arith in rw e (append-nil (f i))
lines_last f i (suc n) =
    let e : i + suc n ≡ suc i + n = omega arith in
    rw e (ap (λ l. f i ++ l) (lines_last f (suc i) n) ∙ sym (append_assoc (f i) (lines f (suc i) n) (f (suc i + n))))

-- the loop over a number of texts: one text more, and the end
pub line_more : (f : ℕ → List ℕ) (i : ℕ) {p q r : Page} → Printed (lines f 0 i) p q → Printed (f i) q r → Printed (lines f 0 (i + 1)) p r
line_more f i a b = let e : 0 + i ≡ i = omega arith in reads_as (rw (add-one, lines_last f 0 i, e)) (both a b)

pub lines_done : (f : ℕ → List ℕ) {i n : ℕ} {p q : Page} → i ≡ n → Printed (lines f 0 i) p q → Printed (lines f 0 n) p q
lines_done f e h = rw (← e) h

-- the loop over the bytes of a text
pub byte_more : (text : List ℕ) (i : ℕ) {p q r : Page} → i < length text → Printed (take i text) p q → Printed (get_or text i 0 ∷ []) q r → Printed (take (i + 1) text) p r
byte_more text i h a b = reads_as (sym (take_more text i 0 h)) (both a b)

pub no_lines : (f : ℕ → List ℕ) {p : Page} → Printed (lines f 0 0) p p
unfolding lines
no_lines f = nothing
