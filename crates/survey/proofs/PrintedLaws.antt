-- What the program prints of an input that it read whole, and of one that is too long.
use Rattle.std.specs.Prelude.{Option, Some, None, Result, Ok, Err, IfSome, MatchOption, OnOk}
use Rattle.std.specs.Io.KnownBytes.{Appends}
use Rattle.std.proofs.Common.{length-take}
use mathlib.Core.Path.{◌≡◌, refl, ap, subst, ◌∙◌}
use mathlib.Core.List.{List, [], ◌∷◌}
use Prim.Native.Nat.{ℕ, ◌≤◌, ◌<◌}
use native.Mathlib.Omega.{arith}
use lib.ListN.{length, take}
use borrow.Author.Tests.{le-leb, lt-leb}
use Rattle.semantics.specs.Base.{each}
use Rattle.semantics.specs.Tree.{bytes}
use Rattle.survey_lines.specs.Text.{line}
use Rattle.survey.specs.Survey.{survey_text, printed}

fits : (s : List ℕ) → length s ≤ 65536 → survey_text s ≡ printed s
unfolding printed
fits s h = rw (le-leb (length s) 65536 h)

long : (s : List ℕ) → 65536 < length s → line (bytes "too long") [] ≡ printed s
unfolding printed
long s h = rw (lt-leb (length s) 65536 h)

too_long : 116 ∷ 111 ∷ 111 ∷ 32 ∷ 108 ∷ 111 ∷ 110 ∷ 103 ∷ 10 ∷ [] ≡ line (bytes "too long") []
unfolding line each
too_long = refl

module _ {T E : Type 0} (known old new : Option (List ℕ)) (buf : List ℕ) (b : length buf ≡ 65536) {o : Option ℕ}
    (h : IfSome known (λ s. MatchOption o (length buf < length s) (λ n. take n buf ≡ s))) where
  pub print-whole : (r : Result T E) {n : ℕ} → o ≡ Some n → OnOk r (Appends old new (survey_text (take n buf))) → OnOk r (IfSome known (λ s. Appends old new (printed s)))
  print-whole (Err x) e k = tt
  print-whole (Ok x) {n} e k = go known (subst (λ p. IfSome known (λ s. MatchOption p (length buf < length s) (λ m. take m buf ≡ s))) e h)
    where
      go : (a : Option (List ℕ)) → IfSome a (λ s. take n buf ≡ s) → IfSome a (λ s. Appends old new (printed s))
      go None w = tt
      go (Some s) w = subst (Appends old new) (ap survey_text w ∙ fits s (omega (arith, ap length w, length-take n buf, b))) k

  pub print-long : (r : Result T E) → o ≡ None → OnOk r (Appends old new (116 ∷ 111 ∷ 111 ∷ 32 ∷ 108 ∷ 111 ∷ 110 ∷ 103 ∷ 10 ∷ []))
      → OnOk r (IfSome known (λ s. Appends old new (printed s)))
  print-long (Err x) e k = tt
  print-long (Ok x) e k = go known (subst (λ p. IfSome known (λ s. MatchOption p (length buf < length s) (λ m. take m buf ≡ s))) e h)
    where
      go : (a : Option (List ℕ)) → IfSome a (λ s. length buf < length s) → IfSome a (λ s. Appends old new (printed s))
      go None w = tt
      go (Some s) w = subst (Appends old new) (too_long ∙ long s (omega (arith, w, b))) k
