-- A number's fewest digits, as `io::decimal` promises them, are its decimal text; and a line.
use mathlib.Core.Path.{◌≡◌, ap, ◌∙◌}
use mathlib.Core.List.{List, [], ◌∷◌, ◌++◌}
use Prim.Native.Nat.{ℕ, zero, suc, ◌+◌, ◌-◌, ◌/◌, ◌%◌, ◌^◌, ◌≤◌, ◌<◌}
use native.Mathlib.Nat.{pow-suc, pow-zero, mod-lt, mod-eq_of_lt}
use native.Mathlib.Omega.{arith}
use native.Mathlib.Decide.{dec_lt}
use lib.ListN.{length, get_or}
use borrow.Author.Tests.{lt-ltb, le-ltb}
use Rattle.io.specs.Digits.{last_digits, IsDigitCount, hex_digit_ascii}
use Rattle.survey_lines.specs.Text.{digits_of, decimal, line, lines}
use Rattle.survey_lines.specs.Inside.Page.{Printed}
use Rattle.survey_lines.specs.declared.text.Page.{Page}
use Rattle.survey_lines.proofs.PageLaws.{reads_as, both, each-lines}

glyph_is : (d : ℕ) → d < 10 → hex_digit_ascii d ≡ 48 + d
glyph_is d h = rw (lt-ltb d 10 h)

ten_least : (j : ℕ) → 0 < 10 ^ j
ten_least zero = omega (arith, pow-zero 10)
ten_least (suc j) = omega (arith, pow-suc 10 j, ten_least j)

fewest : (k f n : ℕ) → IsDigitCount 10 1 n (suc k) → suc k ≤ f → last_digits 10 (suc k) n ≡ digits_of f n
unfolding digits_of
fewest k zero n w h = absurd (omega arith)
fewest zero (suc f) n w h =
    let l : n < 10 = omega (arith, w.1, pow-suc 10 0, pow-zero 10) in
    rw (lt-ltb n 10 l, mod-eq_of_lt l) (ap (λ x. x ∷ []) (glyph_is n l))
fewest (suc j) (suc f) n w h =
    let e : suc (suc j) - 1 ≡ suc j = omega arith in
    let b : 10 ^ suc j ≤ n = rw e at (w.2 (omega arith)) in
    let t : 10 ≤ n = omega (arith, b, pow-suc 10 j, ten_least j) in
    let u : n / 10 < 10 ^ suc j = omega (arith, w.1, pow-suc 10 (suc j)) in
    let i : suc j - 1 ≡ j = omega arith in
    let v : 1 < suc j → 10 ^ (suc j - 1) ≤ n / 10 = λ _. rw i (omega (arith, b, pow-suc 10 j)) in
    rw (le-ltb n 10 t)
    (ap (λ l. l ++ hex_digit_ascii (n % 10) ∷ []) (fewest j f (n / 10) (omega arith, u, v) (omega arith))
    ∙ ap (λ x. digits_of f (n / 10) ++ x ∷ []) (glyph_is (n % 10) (mod-lt n (omega arith))))

ten_grows : (a j : ℕ) → 10 ^ a ≤ 10 ^ (a + j)
ten_grows a zero = let e : a + 0 ≡ a = omega arith in rw e (omega arith)
ten_grows a (suc j) = let e : a + suc j ≡ suc (a + j) = omega arith in rw e (omega (arith, pow-suc 10 (a + j), ten_grows a j))

twenty : (n k : ℕ) → IsDigitCount 10 1 n k → n < 2 ^ 64 → k ≤ 20
twenty n k w h =
    elim (dec_lt 20 k) [
      | yes l ↦
          let e : k - 1 ≡ 20 + (k - 21) = omega (arith, l) in
          absurd (omega (arith, ten_grows 20 (k - 21), rw e at (w.2 (omega (arith, l))), h))
      | no l ↦ omega (arith, l)
    ]

pub spells : (n k : ℕ) {text : List ℕ} {p q : Page} → IsDigitCount 10 1 n k → n < 2 ^ 64 → text ≡ last_digits 10 k n → Printed text p q → Printed (decimal n) p q
spells n zero w h e = absurd (omega (arith, w.0))
spells n (suc k) w h e = reads_as (e ∙ fewest k 20 n w (twenty n (suc k) w h))

-- a line: its word, its numbers in a loop, its end
pub whole-line : (numbers : List ℕ) {word : List ℕ} {p q r z : Page} {i : ℕ} → Printed word p q
    → Printed (lines (λ j. 32 ∷ decimal (get_or numbers j 0)) 0 i) q r → i ≡ length numbers → Printed (10 ∷ []) r z → Printed (line word numbers) p z
unfolding line
whole-line numbers a g h b = both (both a (reads_as (rw h (each-lines (λ n. 32 ∷ decimal n) numbers)) g)) b
