-- Which items of an expression a round visits, in the terms of the code.
use Rattle.std.specs.Prelude.{ℕ, Bool, true, not, cond, ◌||◌, eqb}
use Rattle.semantics.specs.Codes.{kinds, roles}

-- a LetIn and an AttrSet have bindings
unfoldable pub has_bindings : ℕ → Bool
has_bindings kind = eqb kind kinds.LetIn || eqb kind kinds.AttrSet

-- of bindings the inherited are visited outside, the others but an InheritFrom inside
unfoldable pub role_visited : ℕ → Bool → ℕ → Bool
role_visited kind inside role = cond (has_bindings kind) (cond inside (not (eqb role roles.Inherit || eqb role roles.InheritFrom)) (eqb role roles.Inherit)) true
