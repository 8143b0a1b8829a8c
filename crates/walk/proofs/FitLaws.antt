-- The ways through the tables' check, of every call that asks what the walk asks.
use mathlib.Core.Path.{◌≡◌, sym, ◌∙◌}
use mathlib.Core.Bool.{Bool, true, false}
use mathlib.Core.List.{List, ◌∷◌}
use native.Mathlib.Omega.{arith}
use Rattle.lent.specs.Calls.{Rule, Call, first_broken, leaves, outcome_after}
use Rattle.lent.proofs.CallLaws.{keeps, breaks, below_eight, on_other}
use Rattle.given.specs.Bindings.{bindings_fit}
use Rattle.given.specs.Resolutions.{resolutions_fit}
use Rattle.walk.specs.Outcome.{Question, tables_fit}

module _ {Lent Answer : Type 0} (call : Call Question Lent Answer) (rules : List Rule) (q : Question) (l : Lent) {b : Bool} (f : b ≡ resolutions_fit q.image q.resolutions) where
  -- what is promised of an accepted image, with these rules where the tables fit
  abbrev Checked : Answer → Lent → Type 0
  Checked r l' = leaves r l' ≡ outcome_after call (first_broken ((tables_fit q, 7) ∷ rules)) q l

  unfit : tables_fit q ≡ false → Checked (call.refused 7) l
  unfit h = rw (breaks 7 rules h) (sym (on_other call q l (omega arith) (below_eight 7 (omega arith))))

  pub no-resolutions : b ≡ false → Checked (call.refused 7) l
  unfolding tables_fit
  no-resolutions z = unfit (rw (← f, z))

  module _ (z : b ≡ true) {d : Bool} (v : d ≡ bindings_fit q.image q.bindings) where
    pub no-bindings : d ≡ false → Checked (call.refused 7) l
    unfolding tables_fit
    no-bindings y = unfit (rw (← f, z, ← v, y))

    pub fitting : d ≡ true → {r : Answer} {l' : Lent} → leaves r l' ≡ outcome_after call (first_broken rules) q l → Checked r l'
    unfolding tables_fit
    fitting y g = let k : tables_fit q ≡ true = rw (← f, z, ← v, y) in g ∙ rw (keeps 7 rules k)
