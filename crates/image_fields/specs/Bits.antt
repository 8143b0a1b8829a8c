-- Bits and bit fields of a list of bytes ("Fields are unsigned, packed without gaps, most significant first").
use Rattle.std.specs.Prelude.{ℕ, zero, suc, ◌+◌, ◌-◌, ◌*◌, ◌/◌, ◌%◌, ◌^◌, List, get_or}

-- bit p: of byte p / 8 the bit of weight 2 ^ (7 - p % 8)
unfoldable pub bit_of : List ℕ → ℕ → ℕ
bit_of s p = get_or s (p / 8) 0 / 2 ^ (7 - p % 8) % 2

-- the number that the `width` bits from bit `at` on write
unfoldable pub field_of : List ℕ → ℕ → ℕ → ℕ
field_of s at zero = 0
field_of s at (suc width) = field_of s at width * 2 + bit_of s (at + width)
