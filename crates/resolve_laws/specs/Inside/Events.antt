-- The same as a list of events, one an expression at most, and a machine that goes through it once.
use Rattle.std.specs.Prelude.{Bool, cond, ◌&&◌, List, [], ◌∷◌, ◌++◌, ℕ, zero, suc, leb, ltb, length, Option, Some, None}
use Rattle.semantics.specs.Codes.{kinds}
use Rattle.semantics.specs.Base.{listed}
use Rattle.semantics.specs.Tree.{Tree, is_kind}
use Rattle.semantics.specs.Scopes.{ScopeVisit, defined, inside, visiting}
use Rattle.resolve_laws.specs.Inside.Last.{parts_of, entered, unless, enter_all, enter}
use Rattle.resolve_laws.specs.Inside.Settle.{Found, give}

-- a Reference is entered; what lies inside an expression has ended, and began at this place of the list
pub data Event : Type 0 where
  refers : ScopeVisit → Event
  leaves : ℕ → ℕ → Event

-- the latest first
unfoldable pub own_event : Tree → ScopeVisit → List Event → List Event
own_event t v log = cond (is_kind t kinds.Reference v.expr) (refers v ∷ log) log

-- where something was logged inside
unfoldable pub shut : (ℕ → Bool) → ℕ → ℕ → List Event → List Event
shut closes e k log = cond (closes e && ltb k (length log)) (leaves e k ∷ log) log

unfoldable pub log_all : (ScopeVisit → List ScopeVisit → List Event → List Event) → (ScopeVisit → List ScopeVisit → List ScopeVisit) →
    List ScopeVisit → List ScopeVisit → List Event → List Event
log_all g f [] acc log = log
log_all g f (v ∷ vs) acc log = g v (enter_all f vs acc) (log_all g f vs acc log)

-- the backward pass with its events
unfoldable pub logs : Tree → (ℕ → Bool) → ℕ → ScopeVisit → List ScopeVisit → List Event → List Event
logs t closes zero v acc log = log
logs t closes (suc depth) v acc log =
    unless (entered v.expr acc)
    (log_all (logs t closes depth) (enter t depth) (visiting v.scope (parts_of t v.expr).0)
    (enter_all (enter t depth) (visiting (inside t v.expr v.scope) (parts_of t v.expr).1) (v ∷ acc))
    (shut closes v.expr (length (own_event t v log))
    (log_all (logs t closes depth) (enter t depth) (visiting (inside t v.expr v.scope) (parts_of t v.expr).1) (v ∷ acc) (own_event t v log))))
    log

-- all names that an expression defines, given to one Reference
unfoldable pub give_each : Tree → List ℕ → Found → Found
give_each t [] f = f
give_each t (n ∷ ns) f = give t n (give_each t ns f)

unfoldable pub give_if : Tree → List ℕ → Option Found → Option Found
give_if t ns None = None
give_if t ns (Some f) = Some (give_each t ns f)

-- at all places from k on
unfoldable pub from : {A : Type 0} → ℕ → (A → A) → List A → List A
from k h [] = []
from k h (x ∷ l) = cond (leb k (length l)) (h x ∷ from k h l) (x ∷ l)

-- the machine: a place for each event
unfoldable pub play : Tree → List Event → List (Option Found)
play t [] = []
play t (refers v ∷ log) = Some (record { visit = v; name = None }) ∷ play t log
play t (leaves e k ∷ log) = None ∷ from k (give_if t (defined t e)) (play t log)

unfoldable pub somes : List (Option Found) → List Found
somes [] = []
somes (x ∷ l) = listed x ++ somes l
