-- What the private functions of the code promise each other.
use Rattle.std.specs.Prelude.{ℕ, Bool, false, Option, Some, None}
use Rattle.semantics.specs.Base.{or_else, ◌>>=◌}
use Rattle.semantics.specs.Tree.{Text, Tree, same, text_at, reference}
use Rattle.semantics.specs.Resolution.{Tables}
use Rattle.semantics.specs.Narrow.{global_name, local_name, builtins_key, chain_key, callee_name}

module _ (t : Tree) (tab : Tables) where
  -- `builtin_callee_name` without aliases
  unfoldable pub direct_name : ℕ → Option Text
  direct_name e = or_else (global_name t tab e) (builtins_key t tab e)

  -- the expression that a Reference's name is bound to
  unfoldable pub bound_expr : ℕ → Option ℕ
  bound_expr e = local_name t tab e >>= tab.index

-- a Reference spelt like text x
unfoldable pub is_like : Tree → Text → Option ℕ → Bool
is_like t g None = false
is_like t g (Some y) = same g (text_at t y)

unfoldable pub spelt_like : Tree → ℕ → ℕ → Bool
spelt_like t x e = is_like t (text_at t x) (reference t e)

module _ (t : Tree) (tab : Tables) where
  -- the name by which a function may be a predicate
  unfoldable pub predicate_name : ℕ → Option Text
  predicate_name f = or_else (callee_name t tab f) (chain_key t tab f)
