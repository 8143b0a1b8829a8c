-- What is stored in a lent buffer.
use Rattle.std.specs.Prelude.{ℕ, ◌+◌, ◌*◌, ◌/◌, ◌%◌, cond, List, [], ◌∷◌, leb, ltb, length, set}
use Rattle.semantics.specs.Codes.{widths}

-- the bytes of a number of 32 bits, of which edges, records and bindings are made
abbrev pub word : ℕ
word = 4

-- bytes at a byte and the next ones
unfoldable pub written : List ℕ → ℕ → List ℕ → List ℕ
written l at [] = l
written l at (b ∷ bs) = written (set l at b) (at + 1) bs

-- the same where all of them are in the buffer
unfoldable pub stored : List ℕ → ℕ → List ℕ → List ℕ
stored l at bs = cond (leb (at + length bs) (length l)) (written l at bs) l

-- the low 16 bits of x at a byte and the next, the most significant first
unfoldable pub set16 : List ℕ → ℕ → ℕ → List ℕ
set16 l at x = set (set l at (x / 256 % 256)) (at + 1) (x % 256)

-- the same where both are in the buffer
unfoldable pub store16 : List ℕ → ℕ → ℕ → List ℕ
store16 l at x = cond (ltb (at + 1) (length l)) (set16 l at x) l

-- the low 32 bits of x at a byte and the next three, the most significant first
unfoldable pub set32 : List ℕ → ℕ → ℕ → List ℕ
set32 l at x = set (set (set (set l at (x / 16777216 % 256)) (at + 1) (x / 65536 % 256)) (at + 2) (x / 256 % 256)) (at + 3) (x % 256)

-- the same where all four are in the buffer
unfoldable pub store32 : List ℕ → ℕ → ℕ → List ℕ
store32 l at x = cond (ltb (at + 3) (length l)) (set32 l at x) l

-- numbers of 16 bits, one behind the other
unfoldable pub pairs : List ℕ → List ℕ
pairs [] = []
pairs (x ∷ xs) = x / 256 % 256 ∷ x % 256 ∷ pairs xs

-- entries of a table, of 16 bits each, entered at their places, one after the other
unfoldable pub entered : List (ℕ × ℕ) → List ℕ → List ℕ
entered [] l = l
entered (b ∷ bs) l = entered bs (store16 l (widths.entry * b.0) b.1)
