-- In which chain a text stands: a number of its length and its last bytes. Any function of the bytes would do.
use Rattle.std.specs.Prelude.{◌≡◌, cond, ℕ, ◌+◌, ◌-◌, ◌*◌, ◌/◌, ◌%◌, ◌^◌, ◌<◌, ltb, length}
use Rattle.semantics.specs.Tree.{Text}
use Rattle.image_fields.specs.Inside.Words.{word_of}

-- what each of these is multiplied by
abbrev pub size_factor : ℕ
size_factor = 0x2545f491

abbrev pub last_factor : ℕ
last_factor = 0x3c6ef373

abbrev pub before_factor : ℕ
before_factor = 0x1b873593

-- a text's length, its last bytes and those before them as one number
abbrev pub mixed : ℕ → ℕ → ℕ → ℕ
mixed size last before = size % 2 ^ 12 * size_factor + last % 2 ^ 32 * last_factor + before % 2 ^ 32 * before_factor

unfoldable pub hash_of : Text → ℕ
hash_of x = cond (ltb (length x) 4) (mixed (length x) (word_of x 0 (length x)) 0) (mixed (length x) (word_of x (length x - 4) 4) (word_of x (length x - 8) 4))

-- one of so many slots, by the low 32 bits: in their upper ones each bit of the last bytes counts
unfoldable pub slot_of : ℕ → Text → ℕ
slot_of slots x = hash_of x % 2 ^ 32 * slots / 2 ^ 32

pub record Slot (slots : ℕ) (x : Text) (r : ℕ) : Type 0 where
  pub slot_is : r ≡ slot_of slots x
  pub inside : r < slots
