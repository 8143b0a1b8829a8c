-- Steps and scopes without a visit: from large numbers to small, how often each expression is visited.
use Rattle.std.specs.Prelude.{cond, List, [], ◌∷◌, map, ℕ, zero, suc, ◌+◌, ◌*◌, eqb}
use Rattle.semantics.specs.Base.{sum}
use Rattle.semantics.specs.Tree.{Tree}
use Rattle.semantics.specs.Scopes.{makes}

-- v more visits of c
unfoldable pub add : (ℕ → ℕ) → ℕ → ℕ → ℕ → ℕ
add pend v c x = cond (eqb x c) (pend x + v) (pend x)

unfoldable pub add_all : (ℕ → ℕ) → ℕ → List ℕ → ℕ → ℕ
add_all pend v [] = pend
add_all pend v (c ∷ cs) = add_all (add pend v c) v cs

-- the sum of g over all visits, where pend is how often each expression below n is visited from what is not below n
unfoldable pub tally : (ℕ → List ℕ) → (ℕ → ℕ) → ℕ → (ℕ → ℕ) → ℕ
tally kids g zero pend = 0
tally kids g (suc e) pend = pend e * g e + tally kids g e (add_all pend (pend e) (kids e))

unfoldable pub once : ℕ → ℕ → ℕ
once e x = cond (eqb x e) 1 0

unfoldable pub weigh : (ℕ → ℕ) → List ℕ → ℕ
weigh g l = sum (map g l)

unfoldable pub making : Tree → ℕ → ℕ
making t e = cond (makes t e) 1 0
