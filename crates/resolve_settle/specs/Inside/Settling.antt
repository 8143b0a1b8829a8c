-- References of the events so far, as the chains and the table hold them.
use Rattle.std.specs.Prelude.{◌≡◌, false, cond, List, [], ◌∷◌, ◌++◌, map, ℕ, ◌+◌, ◌-◌, ◌*◌, ◌^◌, ◌≤◌, ◌<◌, eqb, ltb, length, get_or, drop, Option, Some, None}
use Rattle.semantics.specs.Codes.{kinds, tags, bits, widths}
use Rattle.semantics.specs.Base.{keep, All}
use Rattle.semantics.specs.Tree.{Tree, expr_at, is_kind}
use Rattle.semantics.specs.Scopes.{ScopeVisit, defines}
use Rattle.semantics.specs.Resolution.{place_of, own}
use Rattle.semantics.specs.Formats.{resolution_table}
use Rattle.image_fields.specs.Image.{expr_count, text_count, decode}
use Rattle.text_classes.specs.Inside.Chains.{Clear, Known}
use Rattle.resolve_laws.specs.Inside.Last.{entered, entered_of, Once}
use Rattle.resolve_laws.specs.Inside.Settle.{Found, text_of}
use Rattle.resolve_laws.specs.Inside.Events.{Event, give_if, from, play}
use Rattle.resolve_laws.specs.Inside.Classes.{class_of}
use Rattle.resolve_laws.specs.Inside.Waiting.{waits}
use Rattle.resolve_laws.specs.Inside.Logged.{log_of, half, Logged, mark_at}
use Rattle.resolve_settle.specs.Inside.Chains.{Chain}

-- the class of a Reference: that of its text
unfoldable pub class_in : Tree → ScopeVisit → ℕ
class_in t v = class_of t (expr_at t v.expr).text

-- the visits of the References, by place
unfoldable pub visits_in : List (Option Found) → List ScopeVisit
visits_in [] = []
visits_in (None ∷ l) = visits_in l
visits_in (Some f ∷ l) = f.visit ∷ visits_in l

-- the Reference that an expression is, if it is among them
unfoldable pub found_at : List (Option Found) → ℕ → Option Found
found_at [] e = None
found_at (None ∷ l) e = found_at l e
found_at (Some f ∷ l) e = cond (eqb f.visit.expr e) (Some f) (found_at l e)

-- the event at the place of a Reference has its expression
unfoldable pub Held : List (Option Found) → List ℕ → Type 0
Held [] w = Unit {0}
Held (None ∷ l) w = Held l w
Held (Some f ∷ l) w = (half w (2 * length l) ≡ f.visit.expr) × Held l w

-- the entry of a definition, or another
unfoldable pub name_entry : Option ℕ → ℕ → ℕ
name_entry None b = b
name_entry (Some n) b = tags.Definition * 2 ^ bits.number + n

-- the entry of a builtin, or another
unfoldable pub place_entry : Option ℕ → ℕ → ℕ
place_entry None b = b
place_entry (Some p) b = tags.Builtin * 2 ^ bits.number + p

-- "Order of search: enclosing definitions, global builtins, With.": the entry of a Reference whose mark is b, where the classes below d have their builtins
unfoldable pub entry_for : Tree → (ScopeVisit → ℕ) → ℕ → Option Found → ℕ → ℕ
entry_for t cls d None b = b
entry_for t cls d (Some f) b = name_entry f.name (cond (ltb (cls f.visit) d) (place_entry (place_of (text_of t f.visit)) b) b)

-- the mark that the backward pass leaves at an expression
unfoldable pub mark_in : Tree → ℕ → ℕ
mark_in t e = mark_at t (entered e (entered_of t))

-- the References by place, each in its class's chain or with its entry in the table; the classes below d have their builtins
pub record Holding (t : Tree) (cls : ScopeVisit → ℕ) (d : ℕ) (l : List (Option Found)) (heads working table : List ℕ) : Type 0 where
  pub held : Held l working
  pub apart : Once (visits_in l)
  pub low : All (λ v. v.expr < length t.exprs) (visits_in l)
  pub chains : (c : ℕ) → c < length t.texts → Chain working (get_or heads c 0) (waits cls c l)
  pub entries : (e : ℕ) → e < length t.exprs → half table e ≡ entry_for t cls d (found_at l e) (mark_in t e)
  pub heads_fit : length t.texts ≤ length heads
  pub events_fit : 2 * widths.entry * length l ≤ length working
  pub few : length l < 2 ^ (8 * widths.entry)
  pub table_fits : widths.entry * length t.exprs ≤ length table

-- the events before place p, the latest first
unfoldable pub log_to : Tree → ℕ → List Event
log_to t p = drop (length (log_of t) - p) (log_of t)

-- the events before place p are settled
pub record Settled (t : Tree) (cls : ScopeVisit → ℕ) (p : ℕ) (heads working table : List ℕ) : Type 0 where
  pub inside : p ≤ length (log_of t)
  pub few : length (log_of t) ≤ length t.exprs
  pub logged : Logged (log_of t) working
  pub room : 2 * widths.entry * length t.exprs ≤ length working
  pub holding : Holding t cls 0 (play t (log_to t p)) heads working table

-- the entries of n expressions may have changed, and nothing behind them
pub record Beside (n : ℕ) (before after : List ℕ) : Type 0 where
  pub kept : length after ≡ length before
  pub behind : drop (widths.entry * n) after ≡ drop (widths.entry * n) before

-- the names that the items of an expression from item k on define
unfoldable pub names_from : Tree → ℕ → ℕ → List ℕ
names_from t e k = map (λ i. i.name) (keep (defines t) (drop k (expr_at t e).items))

-- the event at place p ends what lies inside e, which began at place `start`: the names of its items from k on have been given
pub record Giving (t : Tree) (cls : ScopeVisit → ℕ) (p e start k : ℕ) (heads working table : List ℕ) : Type 0 where
  pub inside : k ≤ length (expr_at t e).items
  pub holding : Holding t cls 0 (from start (give_if t (names_from t e k)) (play t (log_to t p))) heads working table

-- all events are settled, and the builtins of the first d texts entered; the table was `before`
pub record Built (t : Tree) (cls : ScopeVisit → ℕ) (d : ℕ) (heads working before table : List ℕ) : Type 0 where
  pub holding : Holding t cls d (play t (log_of t)) heads working table
  pub beside : Beside (length t.exprs) before table

-- the events before place p are settled, and of each text the class is known; the table was `before`
pub record Played (s : List ℕ) (p : ℕ) (class buckets next heads working before table : List ℕ) : Type 0 where
  pub known : Known s class buckets next
  pub settled : Settled (decode s) (class_in (decode s)) p heads working table
  pub beside : Beside (expr_count s) before table

-- the event at place p is the end of what lies inside an expression
pub record Ends (s : List ℕ) (p : ℕ) (heads working table : List ℕ) : Type 0 where
  pub settled : Settled (decode s) (class_in (decode s)) p heads working table
  pub next : p < length (log_of (decode s))
  pub other : is_kind (decode s) kinds.Reference (half working (2 * p)) ≡ false

-- the room that is lent
pub record Lent (s working table : List ℕ) : Type 0 where
  pub room : 2 * widths.entry * expr_count s ≤ length working
  pub table_fits : widths.entry * expr_count s ≤ length table

-- and chains that are empty, one for each text
pub record Begins (s heads working table : List ℕ) : Type 0 where
  pub none-waits : Clear heads
  pub heads_fit : text_count s ≤ length heads
  pub lent : Lent s working table

-- what the table has in the end: the resolution of each expression, and behind them what stood there
abbrev pub Resolves : List ℕ → List ℕ → List ℕ → Type 0
Resolves s before after = after ≡ resolution_table (decode s) (own (decode s)) ++ drop (widths.entry * expr_count s) before
