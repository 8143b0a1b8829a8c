-- The ways out of a run that has no room for anything, in the terms of the code.
use mathlib.Core.Path.{◌≡◌, refl, sym}
use mathlib.Core.Bool.{Bool, false}
use mathlib.Core.Logic.{inl}
use mathlib.Core.List.{List}
use Prim.Native.Nat.{ℕ, ◌+◌, ◌-◌}
use native.Mathlib.Omega.{arith}
use borrow.Author.Tests.{le-leb, lt-leb}
use Rattle.semantics.specs.Walk.{walk_steps}
use Rattle.image_fields.specs.Image.{decode}
use Rattle.lent.specs.Calls.{first_broken, leaves, outcome_after}
use Rattle.lent.proofs.CallLaws.{keeps_last, breaks, on_answer, on_zeroing}
use Rattle.given.specs.Given.{given}
use Rattle.walk_run.specs.Inside.Run.{sheet, Traversed}
use Rattle.walk_counts.specs.Inside.Visits.{Affordable}
use Rattle.walk.specs.Outcome.{Question, question, steps_of, edge_count, narrowing_count, affordable}
use Rattle.walk.proofs.RunLaws.{begin, left_is, edges_are, recorded_are, most-is}
use Rattle.walk_need.specs.declared.Needed.{Needed}
use Rattle.codes.specs.declared.refusals.Refusal.{Refusal}
use Rattle.codes.specs.declared.refusals.Refusal.TheVariants.{OverBudget}
use Rattle.codes.specs.Refusals.{refusal_numbered}
use Rattle.std.specs.Prelude.{Result, Ok, Err}
use Rattle.walk_need.specs.Outcome.{lent, run_rules, needing}
use Rattle.walk_visit.specs.declared.State.{State}

-- the steps are known before a run
pub need_unaffordable : (s resolutions bindings : List ℕ) {budget : ℕ} {b : Bool} → Affordable s resolutions budget b → b ≡ false
    → leaves (Err OverBudget) lent ≡ outcome_after needing (first_broken (run_rules (question s resolutions bindings budget))) (question s resolutions bindings budget) lent
unfolding affordable steps_of refusal_numbered
need_unaffordable s resolutions bindings {budget} a z =
    rw (breaks 8 _ (lt-leb (walk_steps (decode s) (given resolutions bindings)) budget ((a.walks bindings).over z)))
    (sym (on_zeroing needing (question s resolutions bindings budget) lent (inl refl)))

module _ (s resolutions bindings : List ℕ) (budget : ℕ) {whole entry : ℕ} (w : whole ≡ budget + 1) (en : entry ≡ (decode s).entry)
    {edges₀ narrowings₀ exprs₀ working₀ : List ℕ} {state : State} {edges' narrowings' exprs' working' : List ℕ}
    (tr : Traversed s resolutions bindings entry 16383 0 (sheet (begin whole) edges₀ narrowings₀ exprs₀ working₀) (sheet state edges' narrowings' exprs' working')) where
  abbrev q : Question
  q = question s resolutions bindings budget

  -- what is promised of an accepted image with tables that fit
  abbrev Needs : Result Needed Refusal → Type 0
  Needs r = leaves r lent ≡ outcome_after needing (first_broken (run_rules q)) q lent

  left : state.left ≡ budget + 1 - walk_steps (decode s) (given resolutions bindings)
  left = left_is s resolutions bindings budget w en tr

  pub need_over : state.left ≡ 0 → Needs (Err OverBudget)
  unfolding affordable steps_of refusal_numbered
  need_over z =
      rw (breaks 8 _ (lt-leb (walk_steps (decode s) (given resolutions bindings)) budget (omega (arith, left, z)))) (sym (on_zeroing needing q lent (inl refl)))

  pub need_told : (state.left ≡ 0 → ⊥) → Needs (Ok (record { steps = whole - state.left; edges = state.edges; narrowings = state.recorded; most = state.most }))
  unfolding affordable steps_of edge_count narrowing_count
  need_told o =
      let e : whole - state.left ≡ walk_steps (decode s) (given resolutions bindings) = omega (arith, left, w, o) in
      rw (e, edges_are s resolutions bindings budget w en tr o, recorded_are s resolutions bindings budget w en tr o, most-is s resolutions bindings budget w en tr o)
      (sym (on_answer needing q lent (keeps_last 8 (le-leb (walk_steps (decode s) (given resolutions bindings)) budget (omega (arith, left, o))))))
