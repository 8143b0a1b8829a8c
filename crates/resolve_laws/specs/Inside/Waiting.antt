-- The places of the References of one class that wait for a definition, the latest first: what the chain of a class holds.
use Rattle.std.specs.Prelude.{Bool, false, cond, List, [], ◌∷◌, ℕ, eqb, length, Option, Some, None}
use Rattle.semantics.specs.Scopes.{ScopeVisit}
use Rattle.resolve_laws.specs.Inside.Settle.{Found}

unfoldable pub waiting : (ScopeVisit → ℕ) → ℕ → ScopeVisit → Option ℕ → Bool
waiting cls c w None = eqb (cls w) c
waiting cls c w (Some n) = false

unfoldable pub waits_at : (ScopeVisit → ℕ) → ℕ → Option Found → Bool
waits_at cls c None = false
waits_at cls c (Some f) = waiting cls c f.visit f.name

unfoldable pub waits : (ScopeVisit → ℕ) → ℕ → List (Option Found) → List ℕ
waits cls c [] = []
waits cls c (x ∷ l) = cond (waits_at cls c x) (length l ∷ waits cls c l) (waits cls c l)
