-- Demand 3: what it says, and the theorems (proofs/Soundness.antt).
use Rattle.std.specs.Prelude.{◌≡◌, Bool, ℕ, Some}
use Rattle.semantics.specs.Base.{◌∈◌}
use Rattle.semantics.specs.Tree.{Tree}
use Rattle.semantics.specs.Resolution.{Tables, own}
use Rattle.semantics.specs.Narrow.{Narrowing, analyze}
use Rattle.semantics.specs.Walk.{Guard, Visit, guards, walk}
use Rattle.semantics.specs.Values.{bool, Model, TrueIn, CameOut}
use Rattle.semantics.specs.Premises.{Agrees}

-- "A point is one visit of the walk's definition": where each of its guards came out the way that leads there, each narrowing in force there is true.
abbrev pub Demand3 : Tree → Tables → Model → Type 0
Demand3 t tab m =
    (v : Visit) → v ∈ walk t tab → ((g : Guard) → g ∈ guards t tab v → CameOut m g) → (r : Narrowing) → r ∈ v.in_force → TrueIn t m r

-- for every tree and every pair of tables: nothing in the proof asks that they are our own
abbrev pub SoundWith : Type 0
SoundWith = (t : Tree) (tab : Tables) (m : Model) → Agrees t tab m → Demand3 t tab m

-- and of a condition alone: where it came out, each narrowing of its list for that outcome is true
abbrev pub ConditionSound : Type 0
ConditionSound =
    (t : Tree) (tab : Tables) (m : Model) → Agrees t tab m → (b : Bool) (c : ℕ) → m.expr c ≡ Some (bool b) → (r : Narrowing) → r ∈ analyze t tab b c
    → TrueIn t m r

-- "Tables come from our own calls on this image."
abbrev pub Sound : Type 0
Sound = (t : Tree) (m : Model) → Agrees t (own t) m → Demand3 t (own t) m
