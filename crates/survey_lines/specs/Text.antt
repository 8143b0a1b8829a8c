-- Text as bytes: a number in decimal, a line.
use Rattle.std.specs.Prelude.{ℕ, zero, suc, ◌+◌, ◌/◌, ◌%◌, cond, List, [], ◌∷◌, ◌++◌, ltb}
use Rattle.semantics.specs.Base.{each}

-- the digits of a number of at most so many digits; a number of 64 bits has at most 20
unfoldable pub digits_of : ℕ → ℕ → List ℕ
digits_of zero n = []
digits_of (suc k) n = cond (ltb n 10) ((48 + n) ∷ []) (digits_of k (n / 10) ++ (48 + n % 10) ∷ [])

abbrev pub decimal : ℕ → List ℕ
decimal n = digits_of 20 n

-- a word, the numbers, each behind a space, and the line's end
unfoldable pub line : List ℕ → List ℕ → List ℕ
line word numbers = word ++ each (λ n. 32 ∷ decimal n) numbers ++ 10 ∷ []

-- f i, f (i + 1), ..: n of them, one behind the other
unfoldable pub lines : (ℕ → List ℕ) → ℕ → ℕ → List ℕ
lines f i zero = []
lines f i (suc n) = f i ++ lines f (suc i) n
