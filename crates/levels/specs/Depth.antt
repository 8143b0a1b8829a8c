-- How deep a tree is: the longest way down from the entry, in expressions.
use Rattle.std.specs.Prelude.{true, map, ℕ, zero, suc, ◌+◌}
use Rattle.semantics.specs.Base.{most}
use Rattle.semantics.specs.Tree.{Tree}
use Rattle.semantics.specs.Scopes.{children}

-- "through items of all roles, in expressions, 1 for a leaf": of ways with at most so many
unfoldable pub levels_in : Tree → ℕ → ℕ → ℕ
levels_in t zero e = 0
levels_in t (suc depth) e = 1 + most (map (levels_in t depth) (children t e λ i. true))

-- the same to the end: no way down from an expression is longer than its number
unfoldable pub levels_from : Tree → ℕ → ℕ
levels_from t e = levels_in t (suc e) e

-- "the longest way down from the entry"
unfoldable pub levels_of : Tree → ℕ
levels_of t = levels_from t t.entry
