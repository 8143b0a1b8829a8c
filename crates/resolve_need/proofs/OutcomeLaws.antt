-- The ways out of the call, in the terms of the code.
use mathlib.Core.Path.{◌≡◌, refl, sym}
use mathlib.Core.Logic.{inl}
use mathlib.Core.List.{List, []}
use Prim.Native.Nat.{ℕ, ◌≤◌, ◌<◌}
use native.Mathlib.Omega.{arith}
use borrow.Author.Tests.{le-leb, lt-leb}
use Rattle.semantics.specs.Scopes.{resolve_steps}
use Rattle.image_fields.specs.Image.{decode}
use Rattle.lent.specs.Calls.{first_broken, leaves, outcome_after}
use Rattle.lent.proofs.CallLaws.{keeps_last, breaks, on_answer, on_zeroing}
use Rattle.resolve.specs.Outcome.{Question, question, affordable}
use Rattle.resolve_counts.specs.declared.Counts.{Counts}
use Rattle.resolve_counts.specs.Inside.Visits.{Counted}
use Rattle.resolve_need.specs.declared.Needed.{Needed}
use Rattle.codes.specs.declared.refusals.Refusal.{Refusal}
use Rattle.codes.specs.declared.refusals.Refusal.TheVariants.{OverBudget}
use Rattle.codes.specs.Refusals.{refusal_numbered}
use Rattle.std.specs.Prelude.{Result, Ok, Err}
use Rattle.resolve_need.specs.Outcome.{lent, run_rules, needing}

module _ (s : List ℕ) (budget : ℕ) {r : Counts} (c : Counted (decode s) budget r) where
  abbrev q : Question
  q = question s budget

  abbrev Ends : Result Needed Refusal → Type 0
  Ends a = leaves a lent ≡ outcome_after needing (first_broken (run_rules q)) q lent

  pub need_over : budget < r.steps → Ends (Err OverBudget)
  unfolding affordable refusal_numbered
  need_over h =
      let e : first_broken (run_rules q) ≡ 8 = breaks 8 [] (lt-leb (resolve_steps (decode s)) budget (c.over h)) in
      rw e (sym (on_zeroing needing q lent (inl refl)))

  pub need_done : r.steps ≤ budget → Ends (Ok (record { steps = r.steps; scopes = r.scopes }))
  unfolding affordable
  need_done h =
      let e : first_broken (run_rules q) ≡ 0 = keeps_last 8 (le-leb (resolve_steps (decode s)) budget (omega (arith, h, c.steps-told h))) in
      rw (c.steps-told h, c.scopes_told h) (sym (on_answer needing q lent e))
