-- How a run that has ended is answered, in the terms of the code.
use Rattle.std.specs.Prelude.{ℕ, zero, suc, ◌+◌, ◌-◌, ◌*◌, ◌≤◌, ◌<◌, ◌^◌, ◌≡◌, cond, ◌&&◌, eqb, leb, length, Result, Ok}
use Rattle.semantics.specs.Codes.{widths, bits}
use Rattle.codes.specs.declared.refusals.Refusal.{Refusal}
use Rattle.lent.specs.Calls.{zeros, turned_back}
use Rattle.walk.specs.declared.Walked.{Walked}
use Rattle.walk.specs.Outcome.{Lent, lent, cleared, walked}
use Rattle.walk_visit.specs.declared.State.{State}

-- `end_of`: the refusal of a run that has ended, by what it leaves and the lengths of the buffers
unfoldable pub end_of : State → ℕ → ℕ → ℕ → ℕ → ℕ → ℕ
end_of state names edges narrowings exprs working =
    cond (eqb state.left 0) 8
    (cond (leb (widths.edge * state.edges) edges && (leb (widths.recorded * state.recorded) narrowings && (leb (widths.entry * names) exprs && leb (widths.narrowing * state.most) working))) 0 9)

-- `ended`: what a run leaves that was begun with `whole` left
pub record Ending (state : State) (whole names : ℕ) : Type 0 where
  pub names-few : names < 2 ^ bits.number
  pub edges_few : state.edges + state.left ≤ whole
  pub few : whole ≤ 2 ^ 32

abbrev pub end_in : State → ℕ → Lent → ℕ
end_in state names l = end_of state names (length l.edges) (length l.narrowings) (length l.exprs) (length l.working)

-- the answer of a run that has ended with this refusal, 0 for none
unfoldable pub walked_of : ℕ → ℕ → ℕ → ℕ → Result Walked Refusal
walked_of zero steps edges narrowings = Ok (walked steps edges narrowings)
walked_of (suc n) steps edges narrowings = turned_back (suc n)

-- its answer, and the buffers: the working buffer is zero after success too
pub record Ended (state : State) (whole names : ℕ) (before : Lent) (r : Result Walked Refusal) (after : Lent) : Type 0 where
  pub answer : r ≡ walked_of (end_in state names before) (whole - state.left) state.edges state.recorded
  pub buffers : after ≡ cond (eqb (end_in state names before) 0) (lent before.edges before.narrowings before.exprs (zeros before.working)) (cleared before)
