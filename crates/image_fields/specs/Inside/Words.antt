-- What the private functions of the code promise each other: words of bytes. The proofs tie them to `field_of`.
use Rattle.std.specs.Prelude.{ℕ, zero, suc, ◌+◌, ◌*◌, List, get_or}

-- the number that the n bytes from byte `at` on write: what the code loads before it takes fields out
unfoldable pub word_of : List ℕ → ℕ → ℕ → ℕ
word_of s at zero = 0
word_of s at (suc n) = word_of s at n * 256 + get_or s (at + n) 0
