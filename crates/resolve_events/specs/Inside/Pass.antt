-- The backward pass as the code goes it: what its functions keep in what is lent, and what they promise each other.
use Rattle.std.specs.Prelude.{◌≡◌, Bool, true, cond, not, ◌&&◌, List, [], ◌∷◌, ℕ, suc, ◌+◌, ◌-◌, ◌*◌, ◌≤◌, ◌<◌, eqb, ltb, length, get_or, drop, Option, Some, None}
use Rattle.semantics.specs.Codes.{kinds, roles, widths, none_number}
use Rattle.semantics.specs.Base.{All}
use Rattle.semantics.specs.Tree.{Tree, Item, is_none}
use Rattle.semantics.specs.Scopes.{Scope, ScopeVisit, inside, visiting}
use Rattle.semantics.specs.Resolution.{with_of}
use Rattle.image_fields.specs.Image.{expr_count, decode}
use Rattle.image.specs.Inside.Accepted.{Accepted}
use Rattle.resolve_events.specs.declared.Round.{Round}
use Rattle.resolve_events.specs.declared.Round.TheVariants.{Whole, Inside, Outside}
use Rattle.resolve_events.specs.declared.Due.{Due}
use Rattle.resolve_events.specs.declared.Due.TheVariants.{Now, Not, Later}
use Rattle.resolve_events.specs.Inside.Turns.{has_bindings, role_visited}
use Rattle.resolve_laws.specs.Inside.Last.{parts_of, enter, Once}
use Rattle.resolve_laws.specs.Inside.Events.{Event, leaves, own_event, logs}
use Rattle.resolve_laws.specs.Inside.Logged.{closing, Logged, Marked}

-- what the pass has so far, the latest first: the visits entered, and the events
pub record Trail : Type 0 where
  pub visits : List ScopeVisit
  pub events : List Event

abbrev pub visit : ℕ → Scope → ScopeVisit
visit e c = record { expr = e; scope = c }

-- a visit and all below it, of which what was entered before is passed over: no way down is longer than the expression's number
unfoldable pub pass : Tree → ScopeVisit → Trail → Trail
pass t v x = record { visits = enter t (suc v.expr) v x.visits; events = logs t (closing t) (suc v.expr) v x.visits x.events }

-- the visit itself
unfoldable pub entering : Tree → ScopeVisit → Trail → Trail
entering t v x = record { visits = v ∷ x.visits; events = own_event t v x.events }

-- visits from the last to the first
unfoldable pub pass_all : Tree → List ScopeVisit → Trail → Trail
pass_all t [] x = x
pass_all t (v ∷ vs) x = pass t v (pass_all t vs x)

-- where what lies inside e ends: the end of it, if something was logged since it began at place k
unfoldable pub ended : Bool → ℕ → ℕ → Trail → Trail
ended ends e k x = record { visits = x.visits; events = cond (ends && ltb k (length x.events)) (leaves e k ∷ x.events) x.events }

-- all below a visit of e: what lies inside, its end, what lies outside
unfoldable pub pass_below : Tree → ℕ → Scope → Trail → Trail
pass_below t e c x =
    pass_all t (visiting c (parts_of t e).0)
    (ended (closing t e) e (length x.events) (pass_all t (visiting (inside t e c) (parts_of t e).1) x))

-- what is lent, and the number of events
pub record Sheet : Type 0 where
  pub table : List ℕ
  pub working : List ℕ
  pub at : ℕ

abbrev pub sheet : List ℕ → List ℕ → ℕ → Sheet
sheet table working at = record { table = table; working = working; at = at }

-- what is lent holds this trail, in which so many more events may follow before the next visit
pub record Held (t : Tree) (n spare : ℕ) (x : Trail) (y : Sheet) : Type 0 where
  pub marked : Marked t x.visits n y.table
  pub logged : Logged x.events y.working
  pub number : y.at ≡ length x.events
  pub few : length x.events + spare ≤ length x.visits
  pub low : All (λ v. v.expr < n) x.visits
  pub once : Once x.visits

-- once an expression is entered: the end of what lies inside it is to come
unfoldable pub spare_of : Tree → ℕ → ℕ
spare_of t e = cond (closing t e) 1 0

-- the number of a With, or none
unfoldable pub number_of : Option ℕ → ℕ
number_of None = none_number
number_of (Some w) = w

-- what a visit of e with this With around it asks
pub record Ready (s : List ℕ) (e with spare : ℕ) (y : Sheet) : Type 0 where
  pub accepted : Accepted s
  pub inside : e < expr_count s
  pub with_small : with ≤ none_number
  pub table-room : widths.entry * expr_count s ≤ length y.table
  pub working-room : widths.scope_number * expr_count s ≤ length y.working
  pub scope : Scope
  pub within : with ≡ number_of (with_of (decode s) scope)
  pub trail : Trail
  pub held : Held (decode s) (expr_count s) spare trail y

-- what a part of the pass leaves as it is
pub record Went (n : ℕ) (y z : Sheet) : Type 0 where
  pub table-long : length z.table ≡ length y.table
  pub working-long : length z.working ≡ length y.working
  pub behind : drop (widths.entry * n) z.table ≡ drop (widths.entry * n) y.table

-- a part of the pass with this With around it goes on as f does
pub record Traversed (s : List ℕ) (f : Scope → Trail → Trail) (with spare spare' : ℕ) (y z : Sheet) : Type 0 where
  pub went : Went (expr_count s) y z
  pub passed : (c : Scope) (x : Trail) → with ≡ number_of (with_of (decode s) c) → Held (decode s) (expr_count s) spare x y
      → Held (decode s) (expr_count s) spare' (f c x) z

-- a turn visits its item, which needs an expression
unfoldable pub turn_visits : ℕ → Bool → Item → Bool
turn_visits kind inside i = role_visited kind inside i.role && not (is_none i.expression)

-- rounds over the items, from the last to the first: one of what has no bindings; bindings have one inside, and one outside
unfoldable pub round_of : ℕ → Round
round_of kind = cond (has_bindings kind) Inside Whole

-- when an item with this role is visited, if it has an expression
unfoldable pub when_role : Round → ℕ → Due
when_role Whole role = Now
when_role Inside role = cond (eqb role roles.Inherit) Later (cond (eqb role roles.InheritFrom) Not Now)
when_role Outside role = cond (eqb role roles.Inherit) Now Not

unfoldable pub when_of : Round → ℕ → ℕ → Due
when_of round role expression = cond (is_none expression) Not (when_role round role)

-- whether the end of what lies inside is due after a round
unfoldable pub ends_with : ℕ → Round → Bool
ends_with kind Whole = eqb kind kinds.Lambda
ends_with kind Inside = true
ends_with kind Outside = eqb kind kinds.Lambda

-- the item of a turn: of an Assert the last comes first
unfoldable pub place_of : ℕ → ℕ → ℕ
place_of kind k = cond (eqb kind kinds.Assert) (1 - k) k

-- the With around what item k visits: a With has its env outside
unfoldable pub around_of : ℕ → ℕ → ℕ → ℕ → ℕ
around_of kind k e with = cond (eqb kind kinds.With) (cond (eqb k 0) with e) with

-- an end is logged, if something was logged since its place
pub record Ended (ends : Bool) (e k : ℕ) (working : List ℕ) (at : ℕ) (working' : List ℕ) (at' : ℕ) : Type 0 where
  pub long : length working' ≡ length working
  pub logs : (x : Trail) → at ≡ length x.events → Logged x.events working → (ends ≡ true → widths.scope_number * (at + 1) ≤ length working)
      → (at' ≡ length (ended ends e k x).events) × Logged (ended ends e k x).events working'

-- what the whole pass asks: room, and marks that are zero
pub record Blank (s table working : List ℕ) : Type 0 where
  pub table-room : widths.entry * expr_count s ≤ length table
  pub working-room : widths.scope_number * expr_count s ≤ length working
  pub zero-marks : (i : ℕ) → i < widths.entry * expr_count s → get_or table i 0 ≡ 0
