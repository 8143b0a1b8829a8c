-- Entries of the table, as numbers of 16 bits.
use Rattle.std.specs.Prelude.{◌≡◌, cond, List, ◌++◌, ℕ, ◌+◌, ◌*◌, ◌^◌, eqb, drop}
use Rattle.semantics.specs.Codes.{bits, widths}
use Rattle.semantics.specs.Resolution.{Resolution, entry_of}
use Rattle.image_fields.specs.Image.{table}
use Rattle.lent.specs.Inside.Stores.{pairs}
use Rattle.resolve_laws.specs.Inside.Logged.{half, no_with}

-- "tag 2, value 14"
unfoldable pub number_of : Resolution → ℕ
number_of r = (entry_of r).0 * 2 ^ bits.number + (entry_of r).1

-- the entry that a mark without With leaves is that of nothing
unfoldable pub unmarked : ℕ → ℕ
unmarked x = cond (eqb x no_with) 0 x

-- the entry of an expression in a table of marks and entries
unfoldable pub unmarked_at : List ℕ → ℕ → ℕ
unmarked_at table e = unmarked (half table e)

-- the first n entries without marks, and what stood behind them
pub record Unmarked (n : ℕ) (before after : List ℕ) : Type 0 where
  pub entries : after ≡ pairs (table (unmarked_at before) 0 n) ++ drop (widths.entry * n) before
