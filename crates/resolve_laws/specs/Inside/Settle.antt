-- References of the backward pass, settled where what encloses them ends: no look up the scopes.
use Rattle.std.specs.Prelude.{Bool, List, [], ◌∷◌, ◌++◌, map, ℕ, zero, suc, Option, None}
use Rattle.semantics.specs.Codes.{kinds}
use Rattle.semantics.specs.Base.{listed, only, or_else}
use Rattle.semantics.specs.Tree.{Tree, Text, expr_at, name_at, text_at, same, is_kind}
use Rattle.semantics.specs.Scopes.{ScopeVisit, defined, inside, visiting}
use Rattle.resolve_laws.specs.Inside.Last.{parts_of, entered, unless, enter_all, enter}

-- a visit of a Reference, and the definition found so far
pub record Found : Type 0 where
  pub visit : ScopeVisit
  pub name : Option ℕ

unfoldable pub text_of : Tree → ScopeVisit → Text
text_of t w = text_at t (expr_at t w.expr).text

-- whether a name has the text of a Reference
unfoldable pub names : Tree → ScopeVisit → ℕ → Bool
names t w n = same (text_of t w) (text_at t (name_at t n).text)

-- one name that an expression defines: what waits for its text has it
unfoldable pub give : Tree → ℕ → Found → Found
give t n f = record { visit = f.visit; name = or_else f.name (only (names t f.visit n) n) }

-- the names that an expression defines, from the last to the first
unfoldable pub give_all : Tree → List ℕ → List Found → List Found
give_all t [] fs = fs
give_all t (n ∷ ns) fs = map (give t n) (give_all t ns fs)

unfoldable pub own : Tree → ScopeVisit → List Found
own t v = listed (only (is_kind t kinds.Reference v.expr) (record { visit = v; name = None }))

unfoldable pub outs_all : (ScopeVisit → List ScopeVisit → List Found) → (ScopeVisit → List ScopeVisit → List ScopeVisit) → List ScopeVisit → List ScopeVisit → List Found
outs_all g f [] acc = []
outs_all g f (v ∷ vs) acc = g v (enter_all f vs acc) ++ outs_all g f vs acc

-- the References entered from a visit on, the latest first: inside, then what the expression defines is given, then outside
unfoldable pub outs : Tree → ℕ → ScopeVisit → List ScopeVisit → List Found
outs t zero v acc = []
outs t (suc depth) v acc =
    unless (entered v.expr acc)
    (outs_all (outs t depth) (enter t depth) (visiting v.scope (parts_of t v.expr).0)
    (enter_all (enter t depth) (visiting (inside t v.expr v.scope) (parts_of t v.expr).1) (v ∷ acc))
    ++ (give_all t (defined t v.expr) (outs_all (outs t depth) (enter t depth) (visiting (inside t v.expr v.scope) (parts_of t v.expr).1) (v ∷ acc))
    ++ own t v))
    []

unfoldable pub outs_of : Tree → List Found
outs_of t = outs t (suc t.entry) (record { expr = t.entry; scope = [] }) []
