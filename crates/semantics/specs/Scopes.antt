-- The scopes (document 01, "nameres.rs, first half: scopes"): the visits of `ModuleScopes::new` in order, each with its scope.
use Rattle.std.specs.Prelude.{Bool, true, false, not, cond, ◌&&◌, ◌||◌, List, [], ◌∷◌, ◌++◌, map, ℕ, zero, suc, ◌+◌, ◌*◌, eqb, length}
use Rattle.semantics.specs.Codes.{kinds, roles, name_kinds, widths}
use Rattle.semantics.specs.Base.{pick, empty, keep, each}
use Rattle.semantics.specs.Tree.{Tree, Item, is_none, expr_at, name_at, is_kind, part}

-- "`is_definition` fails for PlainAttrset alone."
unfoldable pub is_definition : Tree → ℕ → Bool
is_definition t n = not (eqb (name_at t n).kind name_kinds.PlainAttrset)

-- `defs.insert`: a parameter and a pattern field define the name that they have, the statics of bindings one that is a definition
unfoldable pub defines : Tree → Item → Bool
defines t i =
    pick i.role
    ((roles.Parameter, true)
    ∷ (roles.PatternField, not (is_none i.name))
    ∷ (roles.StaticExpr, is_definition t i.name)
    ∷ (roles.Inherit, is_definition t i.name)
    ∷ (roles.InheritFrom, is_definition t i.name)
    ∷ [])
    false

-- the names that an expression defines, in the order of its items
unfoldable pub defined : Tree → ℕ → List ℕ
defined t e = map (λ i. i.name) (keep (defines t) (expr_at t e).items)

-- A scope is the list of the expressions that made it and those around it, innermost first. The root is the empty list.
abbrev pub Scope : Type 0
Scope = List ℕ

-- `scopes.alloc`: a With makes a scope, and so does what defines something
unfoldable pub makes : Tree → ℕ → Bool
makes t e = is_kind t kinds.With e || not (empty (defined t e))

-- the scope inside an expression, from the one around it
unfoldable pub inside : Tree → ℕ → Scope → Scope
inside t e s = cond (makes t e) (e ∷ s) s

-- One visit: "A step is one `traverse_expr` call".
pub record ScopeVisit : Type 0 where
  pub expr : ℕ
  pub scope : Scope

-- visits of these expressions in a scope, in order
unfoldable pub visiting : Scope → List ℕ → List ScopeVisit
visiting s es = map (λ e. record { expr = e; scope = s }) es

-- the expressions of the items that have one and pass a test, in order
unfoldable pub children : Tree → ℕ → (Item → Bool) → List ℕ
children t e p = map (λ i. i.expression) (keep (λ i. p i && not (is_none i.expression)) (expr_at t e).items)

-- `BindingValue::Inherit`: "An Inherit is resolved outside its set."
unfoldable pub inherited : Item → Bool
inherited i = eqb i.role roles.Inherit

-- what else is visited, inside: "Role 6 gets no scope visit."
unfoldable pub enclosed : Item → Bool
enclosed i = not (inherited i || eqb i.role roles.InheritFrom)

-- `traverse_bindings`: all of role 5 first, then the others in the order of the items
unfoldable pub binding_children : Tree → ℕ → Scope → List ScopeVisit
binding_children t e s = visiting s (children t e inherited) ++ visiting (inside t e s) (children t e enclosed)

-- `traverse_expr`: what a visit of an expression in a scope leads to, in order
unfoldable pub scope_children : Tree → ℕ → Scope → List ScopeVisit
scope_children t e s =
    pick (expr_at t e).kind
    ((kinds.Lambda, visiting (inside t e s) (children t e λ i. true))  -- the defaults, then the body
    ∷ (kinds.LetIn, binding_children t e s)  -- the bindings, then the body
    ∷ (kinds.AttrSet, binding_children t e s)
    ∷ (kinds.With, visiting s (part t e 0 ∷ []) ++ visiting (inside t e s) (part t e 1 ∷ []))  -- the env outside, the body inside
    ∷ (kinds.Assert, visiting s (part t e 1 ∷ part t e 0 ∷ []))  -- "For Assert this pass visits body, then cond"
    ∷ [])
    (visiting s (children t e λ i. true))  -- the others: `walk_child_exprs`

-- the visits from one on, at most so many deep: "the expression number falls on the way down"
unfoldable pub scope_visits : Tree → ℕ → ScopeVisit → List ScopeVisit
scope_visits t zero v = []
scope_visits t (suc depth) v = v ∷ each (scope_visits t depth) (scope_children t v.expr v.scope)

-- the same run to its end: no way down from an expression is longer than its number
unfoldable pub scopes_from : Tree → ScopeVisit → List ScopeVisit
scopes_from t v = scope_visits t (suc v.expr) v

-- `ModuleScopes::new`: from the entry in the root scope
unfoldable pub scopes_of : Tree → List ScopeVisit
scopes_of t = scopes_from t (record { expr = t.entry; scope = [] })

-- "A step is one `traverse_expr` call."
unfoldable pub resolve_steps : Tree → ℕ
resolve_steps t = length (scopes_of t)

-- "each scope made, root included"
unfoldable pub scopes_made : Tree → ℕ
scopes_made t = 1 + length (keep (λ v. makes t v.expr) (scopes_of t))

-- "Working need: 4E bytes, and 8 more for each scope made, root included."
unfoldable pub resolve_need : Tree → ℕ
resolve_need t = widths.scope_number * length t.exprs + widths.scope * scopes_made t
