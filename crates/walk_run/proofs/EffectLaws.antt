-- What parts of the walk do (specs/Inside/Effects.antt), put together one after the other; and what visits do.
use Rattle.std.specs.Prelude.{Option, Some, None}
use mathlib.Core.Path.{◌≡◌, refl, ap, sym, ◌∙◌}
use mathlib.Core.Bool.{Bool, true, false}
use mathlib.Core.List.{List, [], ◌∷◌, ◌++◌, map, append_assoc, append-nil}
use Prim.Native.Nat.{ℕ, ◌+◌, max}
use native.Mathlib.Nat.{zero-max, zero-add, add_assoc}
use native.Mathlib.Omega.{arith}
use lib.ListN.{length}
use Rattle.semantics.specs.Base.{only, listed, each, ◌>>=◌}
use Rattle.semantics.specs.Tree.{Tree}
use Rattle.semantics.specs.Resolution.{Tables}
use Rattle.semantics.specs.Narrow.{Narrowing}
use Rattle.semantics.specs.Walk.{Visit, opened, steps, visits_from}
use Rattle.semantics.specs.Order.{RunToEnd}
use Rattle.walk_visit.specs.Inside.Steps.{nodes_at}
use Rattle.walk_run.specs.Inside.Effects.{Effect, nothing_done, joined, spent, opening, stepping, visit_does, doing}
use Rattle.walk_run.specs.Inside.Run.{step_to, visits_below}

pub max_three : (a b c : ℕ) → max (max a b) c ≡ max a (max b c)
max_three a b c = omega arith

pub effect_is : {c c' m m' : ℕ} {es es' : List (ℕ × ℕ)} {rs rs' : List (ℕ × Narrowing)} {bs bs' : List (ℕ × ℕ)}
    → c ≡ c' → m ≡ m' → es ≡ es' → rs ≡ rs' → bs ≡ bs'
    → ◌≡◌ {A = Effect} (record { cost = c; most = m; edges = es; recorded = rs; bound = bs }) (record { cost = c'; most = m'; edges = es'; recorded = rs'; bound = bs' })
effect_is h i j k l = rw (h, i, j, k, l)

joined-nothing : (f : Effect) → joined nothing_done f ≡ f
joined-nothing f = effect_is (zero-add f.cost) (zero-max f.most) refl refl refl

pub joined_assoc : (f g h : Effect) → joined (joined f g) h ≡ joined f (joined g h)
joined_assoc f g h =
    effect_is (add_assoc f.cost g.cost h.cost) (max_three f.most g.most h.most) (append_assoc f.edges g.edges h.edges)
    (append_assoc f.recorded g.recorded h.recorded) (append_assoc f.bound g.bound h.bound)

-- nodes are counted before, between or behind
pub spent_later : (n : ℕ) (f g : Effect) → joined (spent n) (joined f g) ≡ joined f (joined (spent n) g)
spent_later n f g = effect_is (omega arith) (omega arith) refl refl refl

pub spent-parts : (m n : ℕ) (f g : Effect) → joined (spent (m + n)) (joined f g) ≡ joined (joined (spent m) f) (joined (spent n) g)
spent-parts m n f g = effect_is (omega arith) (omega arith) refl refl refl

module _ (t : Tree) (tab : Tables) where
  pub doing-++ : (vs ws : List Visit) → doing t tab (vs ++ ws) ≡ joined (doing t tab vs) (doing t tab ws)
  unfolding doing
  doing-++ [] ws = sym (joined-nothing (doing t tab ws))
  doing-++ (v ∷ vs) ws = ap (joined (visit_does t tab v)) (doing-++ vs ws) ∙ sym (joined_assoc (visit_does t tab v) (doing t tab vs) (doing t tab ws))

  unopened : (b : Option ℕ) → (b >>= only false) ≡ None
  unfolding ◌>>=◌ only
  unopened None = refl
  unopened (Some n) = refl

  -- the visits from e on: a step, its condition's nodes, and the visits below it
  module _ (run : RunToEnd t tab) (e : ℕ) (b : Option ℕ) (way : List (ℕ × ℕ)) (ns : List Narrowing) where
    abbrev below : List Visit
    below = visits_below t tab e way ns (steps t tab e b)

    pub visits_do : doing t tab (visits_from t tab (step_to e b) way ns)
        ≡ joined (stepping t tab e b (length ns)) (joined (spent (nodes_at t tab e)) (doing t tab (visits_below t tab e way ns (steps t tab e b))))
    unfolding doing visit_does opened listed each ◌>>=◌
    visits_do =
        ap (doing t tab) (run.visits_are (step_to e b) way ns)
        ∙ rw (unopened b) (effect_is (omega arith) (ap (max (length ns)) (sym (zero-max (doing t tab below).most))) refl refl refl)

  -- .. as the own expression of a binding
  module _ (run : RunToEnd t tab) (e n : ℕ) (way : List (ℕ × ℕ)) (ns : List Narrowing) where
    abbrev inside : List Visit
    inside = visits_below t tab e way ns (steps t tab e (Some n))

    abbrev visit_of : Bool → Visit
    visit_of o = record { expr = e; binding = Some n; opens = o; way = way; in_force = ns }

    opens-first : doing t tab (visit_of true ∷ inside) ≡ joined (opening n e ns) (doing t tab (visit_of false ∷ inside))
    unfolding doing visit_does opened listed each ◌>>=◌ only
    opens-first =
        effect_is (omega arith) (sym (zero-max _)) refl (ap (λ r. r ++ (doing t tab inside).recorded) (append-nil (map (λ r. (n, r)) ns))) refl

    pub visits_open : (place : ℕ) (adds : List Narrowing)
        → doing t tab (visits_from t tab (record { expr = e; item = place; binding = Some n; opens = true; adds = adds }) way ns)
        ≡ joined (opening n e ns) (doing t tab (visits_from t tab (step_to e (Some n)) way ns))
    visits_open place adds =
        ap (doing t tab) (run.visits_are (record { expr = e; item = place; binding = Some n; opens = true; adds = adds }) way ns)
        ∙ opens-first
        ∙ ap (λ vs. joined (opening n e ns) (doing t tab vs)) (sym (run.visits_are (step_to e (Some n)) way ns))
