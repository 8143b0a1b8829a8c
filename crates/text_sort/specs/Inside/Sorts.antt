-- Lists of texts brought into their order, each of its bytes once.
use Rattle.std.specs.Prelude.{◌≡◌, List, ℕ, ◌+◌, ◌<◌, ◌≤◌, length, get_or, take, drop}
use Rattle.std.specs.declared.cmp.Ordering.{Ordering}
use Rattle.std.specs.declared.cmp.Ordering.TheVariants.{Less, Equal, Greater}
use Rattle.semantics.specs.Base.{All, or_else}
use Rattle.semantics.specs.Tree.{text_at}
use Rattle.image_fields.specs.Image.{decode}
use Rattle.resolve_laws.specs.Inside.Classes.{alike}
use Rattle.text_order.specs.Inside.Order.{compared, Ordered}

-- a text is before all of a list
abbrev pub Ahead : List ℕ → ℕ → List ℕ → Type 0
Ahead s x list = All (λ z. compared (text_at (decode s) x) (text_at (decode s) z) ≡ Less) list

-- how the next texts of two lists stand to each other: which of them is before all that is left of the other list
pub record Stands (s a b : List ℕ) (i j : ℕ) (r : Ordering) : Type 0 where
  pub first_next : r ≡ Less → (i < length a) × Ahead s (get_or a i 0) (drop j b)
  pub both-next : r ≡ Equal → ((i < length a) × (j < length b)) × (text_at (decode s) (get_or a i 0) ≡ text_at (decode s) (get_or b j 0))
  pub second-next : r ≡ Greater → (j < length b) × Ahead s (get_or b j 0) (drop i a)

-- the first `count` numbers of a list are texts in their order that tell of each text what two others tell, the first of them before the second
pub record Merges (s a b list : List ℕ) (count : ℕ) : Type 0 where
  pub inside : count ≤ length list
  pub few : count ≤ length a + length b
  pub ordered : Ordered s (take count list)
  pub tells : (y : ℕ) → alike (decode s) y (take count list) ≡ or_else (alike (decode s) y a) (alike (decode s) y b)

-- the same of one list, in any order
pub record Sorts (s list after : List ℕ) (count : ℕ) : Type 0 where
  pub inside : count ≤ length after
  pub ordered : Ordered s (take count after)
  pub tells : (y : ℕ) → alike (decode s) y (take count after) ≡ alike (decode s) y list
