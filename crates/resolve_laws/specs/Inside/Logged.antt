-- How the backward pass keeps its events and its marks in what is lent, and what it leaves: where the pass and the settling meet.
use Rattle.std.specs.Prelude.{◌≡◌, Bool, cond, ◌||◌, List, [], ◌∷◌, ℕ, suc, ◌+◌, ◌*◌, ◌^◌, ◌≤◌, ◌<◌, length, Option, Some, None}
use Rattle.semantics.specs.Codes.{kinds, tags, bits, none_number}
use Rattle.semantics.specs.Tree.{Tree, is_kind}
use Rattle.semantics.specs.Scopes.{ScopeVisit}
use Rattle.semantics.specs.Resolution.{with_of}
use Rattle.image_fields.specs.Inside.Words.{word_of}
use Rattle.resolve_laws.specs.Inside.Last.{entered, entered_of}
use Rattle.resolve_laws.specs.Inside.Events.{Event, refers, leaves, logs}

-- what can define names: of these an end is logged
unfoldable pub closing : Tree → ℕ → Bool
closing t e = is_kind t kinds.Lambda e || (is_kind t kinds.LetIn e || is_kind t kinds.AttrSet e)

-- the events of the whole pass, the latest first
unfoldable pub log_of : Tree → List Event
log_of t = logs t (closing t) (suc t.entry) (record { expr = t.entry; scope = [] }) [] []

-- a number of 16 bits by its place among them
abbrev pub half : List ℕ → ℕ → ℕ
half w i = word_of w (2 * i) 2

-- An event has two: its expression, and where what lies inside it began. The second one of a Reference is free.
unfoldable pub Logged : List Event → List ℕ → Type 0
Logged [] w = Unit {0}
Logged (refers v ∷ log) w = (half w (2 * length log) ≡ v.expr) × Logged log w
Logged (leaves e k ∷ log) w = (half w (2 * length log) ≡ e) × (half w (2 * length log + 1) ≡ k) × Logged log w

-- the entry of no With: no table has it, since 16383 is no expression
abbrev pub no_with : ℕ
no_with = tags.With * 2 ^ bits.number + none_number

unfoldable pub with_entry : Option ℕ → ℕ
with_entry None = no_with
with_entry (Some w) = tags.With * 2 ^ bits.number + w

-- A mark, where the answer will stand: 0 for what was not entered; for a Reference the With around it, which it refers to if nothing else is found.
unfoldable pub mark_of : Tree → ScopeVisit → ℕ
mark_of t v = cond (is_kind t kinds.Reference v.expr) (with_entry (with_of t v.scope)) no_with

unfoldable pub mark_at : Tree → Option ScopeVisit → ℕ
mark_at t None = 0
mark_at t (Some v) = mark_of t v

pub record Marked (t : Tree) (acc : List ScopeVisit) (n : ℕ) (table : List ℕ) : Type 0 where
  pub marks : (e : ℕ) → e < n → half table e ≡ mark_at t (entered e acc)

-- what the pass leaves, with so many events
pub record Traced (t : Tree) (table working : List ℕ) (events : ℕ) : Type 0 where
  pub number : events ≡ length (log_of t)
  pub few : events ≤ length t.exprs
  pub logged : Logged (log_of t) working
  pub marked : Marked t (entered_of t) (length t.exprs) table
