-- What visits do, piece by piece, as the code does it.
use Rattle.std.specs.Prelude.{ℕ, ◌+◌, ◌*◌, ◌^◌, max, List, [], ◌∷◌, ◌++◌, map, length, Option, Some}
use Rattle.semantics.specs.Codes.{bits}
use Rattle.semantics.specs.Base.{listed, each, ◌>>=◌}
use Rattle.semantics.specs.Tree.{Tree}
use Rattle.semantics.specs.Resolution.{Tables}
use Rattle.semantics.specs.Narrow.{Narrowing}
use Rattle.semantics.specs.Walk.{Visit, opened}
use Rattle.narrow_leaf.specs.Inside.Told.{record_number}
use Rattle.walk_visit.specs.Inside.Steps.{nodes_at}
use Rattle.walk_visit.specs.Inside.Parts.{edges_of}

-- steps taken, the most that is in force, edges, recorded narrowings, and the expressions of names
pub record Effect : Type 0 where
  pub cost : ℕ
  pub most : ℕ
  pub edges : List (ℕ × ℕ)
  pub recorded : List (ℕ × Narrowing)
  pub bound : List (ℕ × ℕ)

abbrev pub nothing_done : Effect
nothing_done = record { cost = 0; most = 0; edges = []; recorded = []; bound = [] }

-- one after the other
abbrev pub joined : Effect → Effect → Effect
joined f g =
    record {
      cost = f.cost + g.cost;
      most = max f.most g.most;
      edges = f.edges ++ g.edges;
      recorded = f.recorded ++ g.recorded;
      bound = f.bound ++ g.bound;
    }

-- analysed nodes alone
abbrev pub spent : ℕ → Effect
spent n = record { cost = n; most = 0; edges = []; recorded = []; bound = [] }

-- a binding's own expression, before it is visited
abbrev pub opening : ℕ → ℕ → List Narrowing → Effect
opening name e ns = record { cost = 0; most = 0; edges = []; recorded = map (λ r. (name, r)) ns; bound = (name, e) ∷ [] }

module _ (t : Tree) (tab : Tables) where
  -- one step with so many narrowings in force
  abbrev pub stepping : ℕ → Option ℕ → ℕ → Effect
  stepping e b force = record { cost = 1; most = force; edges = edges_of t tab e b; recorded = []; bound = [] }

  -- a visit, and visits
  unfoldable pub visit_does : Visit → Effect
  visit_does v =
      record {
        cost = 1 + nodes_at t tab v.expr;
        most = length v.in_force;
        edges = edges_of t tab v.expr v.binding;
        recorded = each (λ n. map (λ r. (n, r)) v.in_force) (listed (opened v));
        bound = listed (opened v >>= λ m. Some (m, v.expr));
      }

  unfoldable pub doing : List Visit → Effect
  doing [] = nothing_done
  doing (v ∷ vs) = joined (visit_does v) (doing vs)

-- as numbers of 32 bits: the two of a recorded narrowing
unfoldable pub recorded_numbers : List (ℕ × Narrowing) → List ℕ
recorded_numbers rs = each (λ r. r.0 * 2 ^ bits.binding_spare ∷ record_number r.1 ∷ []) rs
