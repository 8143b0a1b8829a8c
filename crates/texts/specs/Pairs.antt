-- Two texts compared from the back (document 02, order 3): how many pairs of bytes are looked at.
use Rattle.std.specs.Prelude.{cond, [], ◌∷◌, reverse, ℕ, ◌+◌, eqb, length}
use Rattle.semantics.specs.Tree.{Text, same}
use Rattle.texts.specs.declared.Comparison.{Comparison}

-- "up to and with the first that differs": of two texts of one length, pair by pair from their beginnings on
unfoldable pub until_differs : Text → Text → ℕ
until_differs [] b = 0
until_differs (x ∷ a) [] = 0
until_differs (x ∷ a) (y ∷ b) = 1 + cond (eqb x y) (until_differs a b) 0

-- "lengths first, then bytes from the last to the first": "none where lengths differ", else the pairs of the reversed texts
unfoldable pub pairs_looked : Text → Text → ℕ
pairs_looked a b = cond (eqb (length a) (length b)) (until_differs (reverse a) (reverse b)) 0

-- "the same yes or no everywhere", and "how many pairs of bytes it looked at"
abbrev pub comparison : Text → Text → Comparison
comparison a b = record { same = same a b; looked = pairs_looked a b }
