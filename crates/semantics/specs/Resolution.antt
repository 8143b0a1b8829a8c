-- The resolution (document 01, "nameres.rs, first half: scopes"): `compute_name_resolution`.
use Rattle.std.specs.Prelude.{[], ◌∷◌, ℕ, eqb, Option, Some, None}
use Rattle.semantics.specs.Codes.{kinds, tags}
use Rattle.semantics.specs.Base.{or_else, first, final, numbered, ◌>>=◌}
use Rattle.semantics.specs.Tree.{Text, Tree, same, name_at, text_at, is_kind, reference}
use Rattle.semantics.specs.Words.{globals}
use Rattle.semantics.specs.Index.{index_of}
use Rattle.semantics.specs.Scopes.{Scope, defined, scopes_of}

-- "Tag 0 none (value 0), 1 definition (a name below N), 2 builtin (place 0 to 21 in `GLOBAL_BUILTIN_NAMES`), 3 the innermost With"
pub data Resolution : Type 0 where
  unresolved : Resolution
  definition : ℕ → Resolution
  builtin : ℕ → Resolution
  within : ℕ → Resolution

-- the tag and the value of an entry of the table
unfoldable pub entry_of : Resolution → ℕ × ℕ
entry_of unresolved = (tags.None, 0)
entry_of (definition n) = (tags.Definition, n)
entry_of (builtin p) = (tags.Builtin, p)
entry_of (within w) = (tags.With, w)

-- the two tables that conditions and the walk are given
pub record Tables : Type 0 where
  pub index : ℕ → Option ℕ
  pub resolution : ℕ → Resolution

-- "enclosing definitions", innermost scope first; in one scope "the last equal text wins, as insertion does"
unfoldable pub definition_of : Tree → Text → Scope → Option ℕ
definition_of t x [] = None
definition_of t x (e ∷ s) = or_else (final (λ n. same x (text_at t (name_at t n).text)) (defined t e)) (definition_of t x s)

-- `lookup_global_builtin`: the place of a text
unfoldable pub place_of : Text → Option ℕ
place_of x = first (λ g. same x g.1) (numbered 0 globals) >>= λ g. Some g.0

-- "the innermost With"
unfoldable pub with_of : Tree → Scope → Option ℕ
with_of t s = first (is_kind t kinds.With) s

-- "Order of search: enclosing definitions, global builtins, With."
unfoldable pub resolve_in : Tree → Text → Scope → Option Resolution
resolve_in t x s =
    or_else (definition_of t x s >>= λ n. Some (definition n))
    (or_else (place_of x >>= λ p. Some (builtin p))
    (with_of t s >>= λ w. Some (within w)))

-- "a shared expression keeps its last scope"; what no visit reaches has none
unfoldable pub scope_of : Tree → ℕ → Option Scope
scope_of t e = final (λ v. eqb v.expr e) (scopes_of t) >>= λ v. Some v.scope

-- "Only References may be nonzero."
unfoldable pub resolve : Tree → ℕ → Resolution
resolve t e = elim (reference t e >>= λ x. scope_of t e >>= resolve_in t (text_at t x)) [ None ↦ unresolved | Some r ↦ r ]

-- "Tables come from our own calls on this image."
unfoldable pub own : Tree → Tables
own t = record { index = index_of t; resolution = resolve t }
