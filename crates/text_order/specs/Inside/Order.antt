-- Texts in an order, by length and then from the last byte to the first, and a list of different texts in that order.
use Rattle.std.specs.Prelude.{◌≡◌, List, [], ◌∷◌, reverse, ℕ, ◌<◌, length, Option, Some, None}
use Rattle.std.specs.declared.cmp.Ordering.{Ordering}
use Rattle.std.specs.declared.cmp.Ordering.TheVariants.{Less}
use Rattle.std.specs.Ordering.{nat_cmp}
use Rattle.std.specs.Cmp.Lexicographic.{slice_cmp}
use Rattle.semantics.specs.Base.{All}
use Rattle.semantics.specs.Tree.{Text, Tree, text_at}
use Rattle.image_fields.specs.Image.{text_count, decode}
use Rattle.resolve_laws.specs.Inside.Classes.{alike}

-- two lists of numbers by the first that differ, and a beginning before the whole
abbrev pub lexical : List ℕ → List ℕ → Ordering
lexical a b = slice_cmp nat_cmp a b

-- a text as it is compared: its length, then its bytes from the last to the first
unfoldable pub backwards : Text → List ℕ
backwards a = length a ∷ reverse a

-- how a text stands to another
unfoldable pub compared : Text → Text → Ordering
compared a b = lexical (backwards a) (backwards b)

-- each text of a list is before all that follow
abbrev pub Rising : Tree → List ℕ → Type 0
Rising t [] = Unit {0}
Rising t (z ∷ l) = All (λ w. compared (text_at t z) (text_at t w) ≡ Less) l × Rising t l

-- texts in their order
pub record Ordered (s list : List ℕ) : Type 0 where
  pub texts : All (λ z. z < text_count s) list
  pub rising : Rising (decode s) list

-- the text of a list that has the bytes of x
pub record Looked (s list : List ℕ) (x : ℕ) (r : Option ℕ) : Type 0 where
  pub answer : alike (decode s) x list ≡ r
