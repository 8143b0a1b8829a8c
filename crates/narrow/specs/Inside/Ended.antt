-- How a run that has ended is answered, in the terms of the code.
use Rattle.std.specs.Prelude.{ℕ, ◌+◌, ◌-◌, ◌*◌, ◌≤◌, ◌<◌, ◌^◌, ◌≡◌, List, length, Result, Ok, Err}
use Rattle.semantics.specs.Codes.{widths}
use Rattle.codes.specs.declared.refusals.Refusal.{Refusal}
use Rattle.codes.specs.declared.refusals.Refusal.TheVariants.{OverBudget, BufferTooShort}
use Rattle.lent.specs.Calls.{zeros}
use Rattle.narrow.specs.declared.Analyzed.{Analyzed}
use Rattle.narrow.specs.Outcome.{analyzed}

-- what a run leaves that was begun with `whole` left
pub record Ending (whole left thens elses : ℕ) : Type 0 where
  pub few : whole ≤ 2 ^ 32
  pub thens-small : thens + left ≤ whole
  pub elses-small : elses + left ≤ whole

abbrev pub Cleared : Refusal → List ℕ → List ℕ → Result Analyzed Refusal → List ℕ → List ℕ → Type 0
Cleared f l m r l' m' = (r ≡ Err f) × (l' ≡ zeros l) × (m' ≡ zeros m)

-- each way out
pub record Ended (whole left thens elses : ℕ) (l m : List ℕ) (r : Result Analyzed Refusal) (l' m' : List ℕ) : Type 0 where
  pub over : left ≡ 0 → Cleared OverBudget l m r l' m'
  pub short_then : (left ≡ 0 → ⊥) → length l < widths.narrowing * thens → Cleared BufferTooShort l m r l' m'
  pub short_else : (left ≡ 0 → ⊥) → widths.narrowing * thens ≤ length l → length m < widths.narrowing * elses → Cleared BufferTooShort l m r l' m'
  pub done : (left ≡ 0 → ⊥) → widths.narrowing * thens ≤ length l → widths.narrowing * elses ≤ length m → (r ≡ Ok (analyzed (whole - left) thens elses)) × (l' ≡ l) × (m' ≡ m)
