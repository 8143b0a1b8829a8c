-- How often each expression is visited, as the code keeps it, and what is told of a resolution before its first visit.
use Rattle.std.specs.Prelude.{◌≡◌, Bool, not, ◌&&◌, List, map, ℕ, ◌+◌, ◌≤◌, ◌<◌, min, eqb, length, get_or}
use Rattle.semantics.specs.Codes.{roles}
use Rattle.semantics.specs.Base.{empty, keep}
use Rattle.semantics.specs.Tree.{Tree, Item, is_none, expr_at}
use Rattle.semantics.specs.Scopes.{resolve_steps, scopes_made}
use Rattle.image_fields.specs.Image.{expr_count, decode}
use Rattle.resolve_laws.specs.Inside.Counts.{add_all}
use Rattle.resolve_counts.specs.declared.Counts.{Counts}

-- the largest number of 32 bits: there a count stops
abbrev pub stop : ℕ
stop = 4294967295

-- the count of an expression
abbrev pub count_at : List ℕ → ℕ → ℕ
count_at room e = get_or room e 0

-- room for n expressions, with so many visits of each
pub record Holds (n : ℕ) (pend : ℕ → ℕ) (room : List ℕ) : Type 0 where
  pub long : n ≤ length room
  pub counts : (e : ℕ) → e < n → count_at room e ≡ min (pend e) stop

-- v more visits in one count
pub record More (c v : ℕ) (before after : List ℕ) : Type 0 where
  pub kept : length after ≡ length before
  pub more : count_at after c ≡ min (count_at before c + v) stop
  pub others : (e : ℕ) → (e ≡ c → ⊥) → count_at after e ≡ count_at before e

-- whether an item of an accepted image leads to a visit: "Role 6 gets no scope visit.", and a field without default and a parameter have no expression
unfoldable pub leads : Item → Bool
leads i = not (eqb i.role roles.InheritFrom) && not (is_none i.expression)

-- a visit of an expression without items leads to no other
unfoldable pub leaf : Tree → ℕ → Bool
leaf t e = empty (expr_at t e).items

-- of what these items lead to, the expressions that have items, and how many have none
unfoldable pub inner : Tree → List Item → List ℕ
inner t is = map (λ i. i.expression) (keep (λ i. leads i && not (leaf t i.expression)) is)

unfoldable pub leaves : Tree → List Item → ℕ
leaves t is = length (keep (λ i. leads i && leaf t i.expression) is)

-- v visits of the owner of these items: so many leaves each, and v more of each other
pub record Pushed (s : List ℕ) (is : List Item) (v r : ℕ) (before after : List ℕ) : Type 0 where
  pub kept : length after ≡ length before
  pub bare : r ≡ leaves (decode s) is
  pub pushed : (pend : ℕ → ℕ) → Holds (expr_count s) pend before → Holds (expr_count s) (add_all pend v (inner (decode s) is)) after

-- what is told of a resolution: steps and scopes, or that the steps exceed the budget
pub record Counted (t : Tree) (budget : ℕ) (r : Counts) : Type 0 where
  pub steps-told : r.steps ≤ budget → r.steps ≡ resolve_steps t
  pub scopes_told : r.steps ≤ budget → r.scopes ≡ scopes_made t
  pub over : budget < r.steps → budget < resolve_steps t
