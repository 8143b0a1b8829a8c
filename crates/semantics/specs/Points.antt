-- What holds of the points of a walk (document 01, "Premises of demand 3"; proofs/PointLaws.antt): "A point is one visit of the walk's definition".
use Rattle.std.specs.Prelude.{◌≡◌, List, [], ◌∷◌, ℕ}
use Rattle.semantics.specs.Base.{each, ◌∈◌}
use Rattle.semantics.specs.Tree.{Tree, part}
use Rattle.semantics.specs.Resolution.{Tables, own}
use Rattle.semantics.specs.Narrow.{Narrowing, analyze}
use Rattle.semantics.specs.Walk.{Guard, Visit, guards, walk}

-- a way down from an expression to another: each owner is left by the item of this number
abbrev pub Leads : Tree → ℕ → List (ℕ × ℕ) → ℕ → Type 0
Leads t from [] to = from ≡ to
Leads t from (w ∷ ws) to = (from ≡ w.0) × Leads t (part t w.0 w.1) ws to

-- "that visit's way down" leads from the entry to what is visited
abbrev pub WaysLead : Type 0
WaysLead = (t : Tree) (tab : Tables) (v : Visit) → v ∈ walk t tab → Leads t t.entry v.way v.expr

-- what a guard tells: its then list, for an else branch its else list
unfoldable pub told : Tree → Tables → Guard → List Narrowing
told t tab g = analyze t tab g.outcome g.condition

-- "In force there .. is the working list of the walk's definition: those guards' then lists, for an else branch their else lists."
abbrev pub InForce : Type 0
InForce = (t : Tree) (tab : Tables) (v : Visit) → v ∈ walk t tab → v.in_force ≡ each (told t tab) (guards t tab v)

-- at no point of a tree's walk over its own tables is anything in force
abbrev pub NothingInForce : Tree → Type 0
NothingInForce t = each (λ v. v.in_force) (walk t (own t)) ≡ []
