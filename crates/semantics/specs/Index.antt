-- The index (document 01, "lib.rs: tree and index"): `compute_module_indices`, field `binding_expr`.
use Rattle.std.specs.Prelude.{Bool, ◌&&◌, ◌||◌, ℕ, eqb, Option, Some}
use Rattle.semantics.specs.Codes.{roles}
use Rattle.semantics.specs.Base.{final, each, ◌>>=◌}
use Rattle.semantics.specs.Tree.{Tree, Item}

-- "Roles 4 and 6 enter; 5 doesn't."
unfoldable pub enters : Item → Bool
enters i = eqb i.role roles.StaticExpr || eqb i.role roles.InheritFrom

-- "Expressions ascend; a later entry replaces.": the expression of the last item that enters the name
unfoldable pub index_of : Tree → ℕ → Option ℕ
index_of t n = final (λ i. enters i && eqb i.name n) (each (λ x. x.items) t.exprs) >>= λ i. Some i.expression
