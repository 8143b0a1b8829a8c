-- What refusals 6 and 10 leave of a tree, and what follows: the bounds on the depth do not matter, so each pass is run to its end (proofs/OrderLaws.antt).
use Rattle.std.specs.Prelude.{◌≡◌, Bool, true, ◌⊎◌, List, [], ◌∷◌, ◌++◌, map, ℕ, ◌+◌, ◌<◌}
use Rattle.semantics.specs.Codes.{kinds, roles}
use Rattle.semantics.specs.Base.{pick, sum, each, All}
use Rattle.semantics.specs.Tree.{Tree, Item, is_none, expr_at, part}
use Rattle.semantics.specs.Scopes.{ScopeVisit, scope_children, scope_visits, scopes_from}
use Rattle.semantics.specs.Resolution.{Tables}
use Rattle.semantics.specs.Narrow.{Narrowing, shape, analysed, nodes_in, nodes, node, analyze_in, analyze}
use Rattle.semantics.specs.Walk.{Step, steps, visits, visits_from}

-- "Role 10 has no expression, 3 may, others do; it is smaller than its owner's number."
abbrev pub Below : ℕ → Item → Type 0
Below e i = (i.expression < e) ⊎ ((is_none i.expression ≡ true) × ((i.role ≡ roles.PatternField) ⊎ (i.role ≡ roles.Parameter)))

-- "children as `Expr` lists its fields": how many there are
unfoldable pub arity : ℕ → ℕ
arity kind = pick kind ((kinds.Apply, 2) ∷ (kinds.IfThenElse, 3) ∷ (kinds.BinOp, 2) ∷ (kinds.UnaryOp, 1) ∷ (kinds.With, 2) ∷ (kinds.Assert, 2) ∷ []) 0

-- What an accepted tree has.
pub record Ordered (t : Tree) : Type 0 where
  pub items : (e : ℕ) → All (Below e) (expr_at t e).items
  pub parts : (e k : ℕ) → k < arity (expr_at t e).kind → part t e k < e

-- Any bound above the expression's number gives the same, and so each pass is a recursion without one.
pub record RunToEnd (t : Tree) (tab : Tables) : Type 0 where
  -- the scope visits
  pub scopes_any : (depth : ℕ) (v : ScopeVisit) → v.expr < depth → scope_visits t depth v ≡ scopes_from t v
  pub scopes_are : (v : ScopeVisit) → scopes_from t v ≡ v ∷ each (scopes_from t) (scope_children t v.expr v.scope)
  -- the analysis and its nodes
  pub analyze-any : (depth : ℕ) (b : Bool) (c : ℕ) → c < depth → analyze_in t tab depth b c ≡ analyze t tab b c
  pub analyze_are : (b : Bool) (c : ℕ) → analyze t tab b c ≡ node t tab (analyze t tab) b (shape t c)
  pub nodes-any : (depth c : ℕ) → c < depth → nodes_in t depth c ≡ nodes t c
  pub nodes_are : (c : ℕ) → nodes t c ≡ 1 + sum (map (nodes t) (analysed (shape t c)))
  -- the walk
  pub visits-any : (depth : ℕ) (s : Step) (way : List (ℕ × ℕ)) (ns : List Narrowing) → s.expr < depth →
      visits t tab depth s way ns ≡ visits_from t tab s way ns
  pub visits_are : (s : Step) (way : List (ℕ × ℕ)) (ns : List Narrowing) →
      visits_from t tab s way ns ≡ record { expr = s.expr; binding = s.binding; opens = s.opens; way = way; in_force = ns }
      ∷ each (λ d. visits_from t tab d (way ++ (s.expr, d.item) ∷ []) (ns ++ d.adds)) (steps t tab s.expr s.binding)

-- every accepted tree, over any tables
abbrev pub OrderedRuns : Type 0
OrderedRuns = (t : Tree) (tab : Tables) → Ordered t → RunToEnd t tab
