-- Words on tests, options and lists that the other definitions are written with.
use Rattle.std.specs.Prelude.{Bool, true, false, ◌&&◌, ℕ, zero, suc, ◌+◌, max, eqb, Option, Some, None}
use mathlib.Core.List.{List, [], ◌∷◌, ◌++◌, Memᴰ}

module _ {A : Type 0} where
  -- a where the test passes
  unfoldable pub only : Bool → A → Option A
  only true a = Some a
  only false a = None

  -- the entry of a table under a number, or another value
  unfoldable pub pick : ℕ → List (ℕ × A) → A → A
  pick n [] d = d
  pick n (x ∷ xs) d = elim (eqb n x.0) [ true ↦ x.1 | false ↦ pick n xs d ]

  -- the test passes at each element
  unfoldable pub every : (A → Bool) → List A → Bool
  every p [] = true
  every p (x ∷ xs) = p x && every p xs

-- the test passes at each number below n
unfoldable pub all : (ℕ → Bool) → ℕ → Bool
all p zero = true
all p (suc n) = all p n && p n

module _ {A : Type 0} where
  -- the first, and where it has nothing the second
  unfoldable pub or_else : Option A → Option A → Option A
  or_else (Some a) b = Some a
  or_else None b = b

  -- a list of what is there, if anything is
  unfoldable pub listed : Option A → List A
  listed None = []
  listed (Some a) = a ∷ []

  -- the list that was found, or the empty one
  unfoldable pub found : Option (List A) → List A
  found None = []
  found (Some l) = l

  -- nothing is in a list
  unfoldable pub empty : List A → Bool
  empty [] = true
  empty (x ∷ xs) = false

  -- the first element that passes a test
  unfoldable pub first : (A → Bool) → List A → Option A
  first p [] = None
  first p (x ∷ xs) = or_else (only (p x) x) (first p xs)

  -- the last element that passes a test
  unfoldable pub final : (A → Bool) → List A → Option A
  final p [] = None
  final p (x ∷ xs) = or_else (final p xs) (only (p x) x)

  -- the elements that pass a test
  unfoldable pub keep : (A → Bool) → List A → List A
  keep p [] = []
  keep p (x ∷ xs) = listed (only (p x) x) ++ keep p xs

  -- the last element
  unfoldable pub last : List A → Option A
  last [] = None
  last (x ∷ xs) = or_else (last xs) (Some x)

  -- the element of a list of one
  unfoldable pub single : List A → Option A
  single [] = None
  single (x ∷ []) = Some x
  single (x ∷ y ∷ r) = None

  -- the elements with their numbers, from i on
  unfoldable pub numbered : ℕ → List A → List (ℕ × A)
  numbered i [] = []
  numbered i (x ∷ xs) = (i, x) ∷ numbered (suc i) xs

  infix 15 ◌∈◌
  -- an element of a list
  abbrev pub ◌∈◌ : A → List A → Type 0
  a ∈ l = Memᴰ a l

  -- P of what is there, if anything is
  abbrev pub Given : Option A → (A → Type 0) → Type 0
  Given None P = Unit {0}
  Given (Some a) P = P a

  -- P of each element
  abbrev pub All : (A → Type 0) → List A → Type 0
  All P [] = Unit {0}
  All P (x ∷ xs) = P x × All P xs

module _ {A B : Type 0} where
  infixl 20 ◌>>=◌
  -- what f finds for what was found
  unfoldable pub ◌>>=◌ : Option A → (A → Option B) → Option B
  None >>= f = None
  Some a >>= f = f a

  -- what f lists for each element, one after the other
  unfoldable pub each : (A → List B) → List A → List B
  each f [] = []
  each f (x ∷ xs) = f x ++ each f xs

-- the sum of numbers
unfoldable pub sum : List ℕ → ℕ
sum [] = 0
sum (x ∷ xs) = x + sum xs

-- the largest of numbers, 0 of none
unfoldable pub most : List ℕ → ℕ
most [] = 0
most (x ∷ xs) = max x (most xs)
