-- What the private functions of the code promise each other.
use Rattle.std.specs.Prelude.{ℕ, ◌+◌, ◌*◌, cond, ◌&&◌, leb}
use Rattle.semantics.specs.Codes.{widths}

-- the refusal of a run of so many steps and scopes
unfoldable pub end_of : ℕ → ℕ → ℕ → ℕ → ℕ → ℕ → ℕ
end_of steps budget exprs scopes table working =
    cond (leb steps budget) (cond (leb (widths.entry * exprs) table && leb (widths.scope_number * exprs + widths.scope * scopes) working) 0 9) 8
