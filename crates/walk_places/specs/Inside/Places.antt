-- Which items of the item table lead to no visit, and what a table of places says of them.
use Rattle.std.specs.Prelude.{ℕ, ◌+◌, ◌*◌, ◌/◌, ◌^◌, ◌≤◌, ◌<◌, ◌≡◌, ◌⊎◌, Bool, false, List, length, get_or}
use Rattle.semantics.specs.Tree.{expr_at, item_at}
use Rattle.image_fields.specs.Image.{expr_count, item_total, items_place, first_of, count_of, decode}
use Rattle.walk_visit.specs.Inside.Steps.{rule_of, enters_item}

-- whether item k of e leads to a visit: its owner's rule enters it
abbrev pub enters : List ℕ → ℕ → ℕ → Bool
enters s e k = enters_item (rule_of (decode s) e) (item_at (decode s) e k)

-- of the items of the table from one on and before another none leads to a visit, whichever expression has it
pub record Idle (s : List ℕ) (from to : ℕ) : Type 0 where
  pub none : (e k : ℕ) → e < expr_count s → k < count_of s e → from ≤ first_of s e + k → first_of s e + k < to → enters s e k ≡ false

-- the places of an image: the byte at which its items start, the bits by which an item's number is above its block's, and one item for each block
abbrev pub start_in : List ℕ → ℕ
start_in places = get_or places 0 0

abbrev pub shift_in : List ℕ → ℕ
shift_in places = get_or places 1 0

abbrev pub place_in : List ℕ → ℕ → ℕ
place_in places b = get_or places (2 + b) 0

abbrev pub numbers : ℕ
numbers = 512

-- all zero
pub record Quiet (places : List ℕ) : Type 0 where
  pub long : length places ≡ numbers
  pub zeros : (i : ℕ) → get_or places i 0 ≡ 0

-- no item leads to a visit between a block's start and its place, which zeros say of none; there is a block for each item
pub record Placed (s places : List ℕ) : Type 0 where
  pub long : length places ≡ numbers
  pub start : start_in places ≡ items_place s
  pub few : shift_in places ≤ 20
  pub room : item_total s / 2 ^ shift_in places < 510
  pub idle : (b : ℕ) → Idle s (b * 2 ^ shift_in places) (place_in places b)

-- `put`: what a place is now, it was, or it is that of the block that starts at i
pub record Put (i next : ℕ) (before after : List ℕ) : Type 0 where
  pub long : length after ≡ length before
  pub start : start_in after ≡ start_in before
  pub shift : shift_in after ≡ shift_in before
  pub place : (b : ℕ) → (place_in after b ≡ place_in before b) ⊎ ((b * 2 ^ shift_in before ≡ i) × (place_in after b ≡ next))

-- `behind`: the item r comes behind the item k of e, and none between them leads to a visit
pub record Skipped (s : List ℕ) (e k r : ℕ) : Type 0 where
  pub ahead : k < r
  pub inside : r ≤ length (expr_at (decode s) e).items
  pub none : (j : ℕ) → k < j → j < r → enters s e j ≡ false
