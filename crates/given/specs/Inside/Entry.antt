-- What the private functions of the code promise each other.
use Rattle.std.specs.Prelude.{ℕ, Bool, ◌&&◌, ◌||◌, List, eqb, ltb}
use Rattle.semantics.specs.Tree.{is_none}
use Rattle.given.specs.Bindings.{spare_of, expr_of}

-- the rule of one entry, with the number of expressions
unfoldable pub entry_stands : List ℕ → ℕ → ℕ → Bool
entry_stands table n exprs = eqb (spare_of table n) 0 && (is_none (expr_of table n) || ltb (expr_of table n) exprs)
