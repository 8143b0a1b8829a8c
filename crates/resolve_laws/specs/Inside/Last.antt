-- Last visits, backwards: each expression is entered once, where the pass meets it first.
use Rattle.std.specs.Prelude.{◌≡◌, true, List, [], ◌∷◌, ◌++◌, ℕ, zero, suc, eqb, Option, Some, None}
use Rattle.semantics.specs.Codes.{kinds}
use Rattle.semantics.specs.Base.{pick, each, first, final}
use Rattle.semantics.specs.Tree.{Tree, expr_at, part}
use Rattle.semantics.specs.Scopes.{ScopeVisit, children, inherited, enclosed, scope_children}

-- what a visit of e visits in the scope around e, and what in the scope inside
unfoldable pub parts_of : Tree → ℕ → List ℕ × List ℕ
parts_of t e =
    pick (expr_at t e).kind
    ((kinds.Lambda, ([], children t e λ i. true))
    ∷ (kinds.LetIn, (children t e inherited, children t e enclosed))
    ∷ (kinds.AttrSet, (children t e inherited, children t e enclosed))
    ∷ (kinds.With, (part t e 0 ∷ [], part t e 1 ∷ []))
    ∷ (kinds.Assert, (part t e 1 ∷ part t e 0 ∷ [], []))
    ∷ [])
    (children t e λ i. true, [])

unfoldable pub below : Tree → ℕ → List ℕ
below t e = (parts_of t e).0 ++ (parts_of t e).1

-- the expressions visited from e on, whatever the scope
unfoldable pub reached : Tree → ℕ → ℕ → List ℕ
reached t zero e = []
reached t (suc depth) e = e ∷ each (reached t depth) (below t e)

-- the visit of an expression among those that were entered, and the last of a run
unfoldable pub entered : ℕ → List ScopeVisit → Option ScopeVisit
entered e acc = first (λ v. eqb v.expr e) acc

unfoldable pub last_of : ℕ → List ScopeVisit → Option ScopeVisit
last_of e vs = final (λ v. eqb v.expr e) vs

-- one thing where nothing was found, another where something was
unfoldable pub unless : {A B : Type 0} → Option A → B → B → B
unless None b c = b
unless (Some a) b c = c

-- from the last to the first
unfoldable pub enter_all : (ScopeVisit → List ScopeVisit → List ScopeVisit) → List ScopeVisit → List ScopeVisit → List ScopeVisit
enter_all f [] acc = acc
enter_all f (v ∷ vs) acc = f v (enter_all f vs acc)

-- the backward pass: what was entered is passed over with all below it
unfoldable pub enter : Tree → ℕ → ScopeVisit → List ScopeVisit → List ScopeVisit
enter t zero v acc = acc
enter t (suc depth) v acc =
    unless (entered v.expr acc) (enter_all (enter t depth) (scope_children t v.expr v.scope) (v ∷ acc)) acc

unfoldable pub entered_of : Tree → List ScopeVisit
entered_of t = enter t (suc t.entry) (record { expr = t.entry; scope = [] }) []

-- no expression twice
abbrev pub Once : List ScopeVisit → Type 0
Once [] = Unit {0}
Once (v ∷ l) = (entered v.expr l ≡ None) × Once l
