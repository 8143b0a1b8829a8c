-- Texts that names have, in chains: how they stand in numbers, and what is known of every text.
use Rattle.std.specs.Prelude.{◌≡◌, Bool, true, List, [], ◌∷◌, ℕ, zero, suc, ◌+◌, ◌-◌, ◌^◌, ◌≤◌, ◌<◌, length, get_or, take, Option, Some, None}
use Rattle.semantics.specs.Base.{All, ◌∈◌}
use Rattle.semantics.specs.Tree.{Tree, text_at}
use Rattle.image_fields.specs.Image.{text_count, decode}
use Rattle.image_fields.specs.Inside.Numbers.{number_or}
use Rattle.resolve_laws.specs.Inside.Classes.{alike, name_texts, class_of}
use Rattle.text_order.specs.Inside.Order.{Ordered}
use Rattle.text_classes.specs.Inside.Hash.{slot_of}
use Rattle.text_classes.specs.declared.Sought.{Sought}
use Rattle.text_classes.specs.declared.Sought.TheVariants.{At, Absent, Full}

-- how many texts a chain has at most
abbrev pub limit : ℕ
limit = 8

-- the first n texts of a chain: a number in it is 1 more than a text's, and 0 ends it
unfoldable pub chain_of : List ℕ → ℕ → ℕ → List ℕ
chain_of next zero at = []
chain_of next (suc n) zero = []
chain_of next (suc n) (suc z) = z ∷ chain_of next n (get_or next z 0)

-- the chain in which text x would stand
abbrev pub chain_for : Tree → List ℕ → List ℕ → ℕ → List ℕ
chain_for t buckets next x = chain_of next limit (get_or buckets (slot_of (length buckets) (text_at t x)) 0)

-- a text that stands in slot b
pub record InSlot (s : List ℕ) (slots b z : ℕ) : Type 0 where
  pub inside : z < text_count s
  pub slot_is : slot_of slots (text_at (decode s) z) ≡ b

-- the text that was found
unfoldable pub found_text : Sought → Option ℕ
found_text (At z) = Some z
found_text Absent = None
found_text Full = None

-- the first text of a chain that has the bytes of x, and where there is none whether the chain may have one more or is full
pub record Seeks (t : Tree) (x : ℕ) (l : List ℕ) (r : Sought) : Type 0 where
  pub answer : alike t x l ≡ found_text r
  pub spare : r ≡ Absent → length l < limit
  pub full : r ≡ Full → length l ≡ limit

-- all numbers are 0
pub record Clear (l : List ℕ) : Type 0 where
  pub zero-at : (k : ℕ) → get_or l k 0 ≡ 0

-- the room that is asked for
pub record Roomy (s class buckets next : List ℕ) : Type 0 where
  pub classes_fit : text_count s ≤ length class
  pub buckets_fit : text_count s ≤ length buckets
  pub next_fits : text_count s ≤ length next
  pub some_bucket : 0 < length buckets
  pub few_buckets : length buckets ≤ 2 ^ 16

-- the chain of x tells its class
pub record Found (s buckets next : List ℕ) (x : ℕ) : Type 0 where
  pub texts : All (λ z. z < text_count s) (chain_for (decode s) buckets next x)
  pub tells : class_of (decode s) x ≡ number_or x (alike (decode s) x (chain_for (decode s) buckets next x))

-- the class of each text is kept, as 1 more than it, or its chain tells it
pub record Known (s class buckets next : List ℕ) : Type 0 where
  pub room : Roomy s class buckets next
  pub kept : (x : ℕ) → x < text_count s → 0 < get_or class x 0 → get_or class x 0 ≡ suc (class_of (decode s) x)
  pub found : (x : ℕ) → x < text_count s → get_or class x 0 ≡ 0 → Found s buckets next x

-- a class, and what is known after it was told
pub record Classed (s class buckets next : List ℕ) (x r : ℕ) : Type 0 where
  pub class_is : r ≡ class_of (decode s) x
  pub inside : r < text_count s
  pub known : Known s class buckets next

-- the classes that are kept are what the first n names tell, and so final
pub record Told (s class : List ℕ) (n : ℕ) : Type 0 where
  pub told : (x : ℕ) → x < text_count s → 0 < get_or class x 0 → alike (decode s) x (take n (name_texts (decode s))) ≡ Some (get_or class x 0 - 1)

-- After the first n names: the chain of a text tells what these names tell, and has texts of its slot alone.
pub record Entered (s class buckets next : List ℕ) (n : ℕ) : Type 0 where
  pub room : Roomy s class buckets next
  pub told : Told s class n
  pub chains : (x : ℕ) → x < text_count s → alike (decode s) x (chain_for (decode s) buckets next x) ≡ alike (decode s) x (take n (name_texts (decode s)))
  pub texts : (b : ℕ) → b < length buckets → All (InSlot s (length buckets) b) (chain_of next limit (get_or buckets b 0))

-- a name's text was entered, or (r false) all chains must be given up
pub record Entering (s class buckets next : List ℕ) (n : ℕ) (r : Bool) : Type 0 where
  pub room : Roomy s class buckets next
  pub entered : r ≡ true → Entered s class buckets next (n + 1)

-- texts that tell of each text what the first n names tell
pub record Named (s order : List ℕ) (count n : ℕ) : Type 0 where
  pub inside : count ≤ length order
  pub few : count ≤ text_count s
  pub texts : All (λ z. z < text_count s) (take count order)
  pub tells : (x : ℕ) → alike (decode s) x (take count order) ≡ alike (decode s) x (take n (name_texts (decode s)))

-- the classes that are kept are those of a list's texts, each its own
pub record Own (class list : List ℕ) : Type 0 where
  pub own : (x : ℕ) → 0 < get_or class x 0 → (x ∈ list) × (get_or class x 0 ≡ x + 1)

-- texts in order that tell of each text what the first n names tell
pub record Sorted (s list : List ℕ) (n : ℕ) : Type 0 where
  pub ordered : Ordered s list
  pub tells : (x : ℕ) → alike (decode s) x list ≡ alike (decode s) x (take n (name_texts (decode s)))

-- the first `count` of a list, and the classes that are kept
pub record Listed (s class order : List ℕ) (count n : ℕ) : Type 0 where
  pub inside : count ≤ length order
  pub told : Told s class n
  pub sorted : Sorted s (take count order) n

-- the class of each of the first n texts is kept
pub record Kept (s class : List ℕ) (n : ℕ) : Type 0 where
  pub kept : (x : ℕ) → x < n → get_or class x 0 ≡ suc (class_of (decode s) x)
