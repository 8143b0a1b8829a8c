-- What the functions of the code that read selections promise each other.
use Rattle.std.specs.Prelude.{ℕ, Bool, false, cond, Option, Some, None}
use Rattle.semantics.specs.Base.{or_else, ◌>>=◌}
use Rattle.semantics.specs.Tree.{Text, Tree, bytes, same, text_at, reference}
use Rattle.semantics.specs.Resolution.{Tables}
use Rattle.semantics.specs.Narrow.{builtin_set, another_set, chain_key}
use Rattle.narrow_texts.specs.declared.chains.BuiltinsRef.{BuiltinsRef}
use Rattle.narrow_texts.specs.declared.chains.BuiltinsRef.TheVariants.{Builtin, Another, Other}

-- a text that may be missing is this one
unfoldable pub spells : Tree → Option ℕ → Text → Bool
spells t None y = false
spells t (Some x) y = same (text_at t x) y

-- a Reference spelt `builtins`
unfoldable pub spelt_builtins : Tree → ℕ → Bool
spelt_builtins t e = spells t (reference t e) (bytes "builtins")

module _ (t : Tree) (tab : Tables) where
  -- which of the three an expression is
  unfoldable pub builtins_ref : ℕ → BuiltinsRef
  builtins_ref e = cond (builtin_set t tab e) Builtin (cond (another_set t tab e) Another Other)

  -- the last key of a selection without default, where it counts, or the text of a Reference
  unfoldable pub leaf_name : ℕ → Option Text
  leaf_name e = or_else (chain_key t tab e) (reference t e >>= λ x. Some (text_at t x))
