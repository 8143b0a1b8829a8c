-- How a run begins and ends, in the terms of the code.
use mathlib.Core.Path.{◌≡◌, refl}
use mathlib.Core.Bool.{Bool, true, false, cond, ◌&&◌}
use mathlib.Core.Logic.{◌⊎◌, inl, inr}
use mathlib.Core.List.{List, ◌++◌}
use Prim.Native.Nat.{ℕ, zero, suc, ◌-◌, ◌*◌, ◌/◌, ◌≤◌, ◌<◌}
use native.Mathlib.Omega.{arith}
use lib.Dec.{eqb, leb}
use lib.ListN.{length, drop, replicate}
use borrow.Author.Tests.{le-leb, lt-leb, eq-eqb, ne_eqb}
use Rattle.semantics.specs.Walk.{edges}
use Rattle.lent.specs.Calls.{zeros, turned_back}
use Rattle.lent.specs.Inside.Stores.{pairs}
use Rattle.codes.specs.declared.refusals.Refusal.{Refusal}
use Rattle.codes.specs.Refusals.{refusal_numbered}
use Rattle.std.specs.Prelude.{Ok, Err}
use Rattle.walk.specs.Outcome.{Lent, lent, cleared, walked}
use Rattle.walk.specs.Inside.Ended.{end_of, walked_of, end_in, Ended}
use Rattle.walk_visit.specs.declared.State.{State}

-- `clear_names`
module _ (names : ℕ) (exprs : List ℕ) where
  abbrev Cleared : List ℕ → Type 0
  Cleared now = now ≡ cond (leb (2 * names) (length exprs)) (pairs (replicate names 16383) ++ drop (2 * names) exprs) exprs

  pub names_short : length exprs < 2 * names → Cleared exprs
  names_short h = rw (lt-leb (2 * names) (length exprs) h)

  pub names-cleared : 2 * names ≤ length exprs → {now : List ℕ} → now ≡ pairs (replicate names 16383) ++ drop (2 * names) exprs → Cleared now
  names-cleared h e = rw (le-leb (2 * names) (length exprs) h) e

-- `end_of`
module _ (state : State) (names edges narrowings exprs working : ℕ) where
  pub end_over : state.left ≡ 0 → 8 ≡ end_of state names edges narrowings exprs working
  unfolding end_of
  end_over h = rw (eq-eqb state.left 0 h)

  module _ (h : state.left ≡ 0 → ⊥) where
    pub short : (leb (4 * state.edges) edges && (leb (8 * state.recorded) narrowings && (leb (2 * names) exprs && leb (4 * state.most) working))) ≡ false → 9 ≡ end_of state names edges narrowings exprs working
    unfolding end_of
    short q = rw (ne_eqb state.left 0 h, q)

    pub end_edges : edges / 4 < state.edges → 9 ≡ end_of state names edges narrowings exprs working
    end_edges l = short (rw (lt-leb (4 * state.edges) edges (omega arith)))

    module _ (a : state.edges ≤ edges / 4) where
      first : leb (4 * state.edges) edges ≡ true
      first = le-leb (4 * state.edges) edges (omega arith)

      pub end_narrowings : narrowings / 8 < state.recorded → 9 ≡ end_of state names edges narrowings exprs working
      end_narrowings l = short (rw (first, lt-leb (8 * state.recorded) narrowings (omega arith)))

      module _ (b : state.recorded ≤ narrowings / 8) where
        second : leb (8 * state.recorded) narrowings ≡ true
        second = le-leb (8 * state.recorded) narrowings (omega arith)

        pub end_exprs : exprs < 2 * names → 9 ≡ end_of state names edges narrowings exprs working
        end_exprs l = short (rw (first, second, lt-leb (2 * names) exprs l))

        module _ (c : 2 * names ≤ exprs) where
          pub end_working : working / 4 < state.most → 9 ≡ end_of state names edges narrowings exprs working
          end_working l = short (rw (first, second, le-leb (2 * names) exprs c, lt-leb (4 * state.most) working (omega arith)))

          pub end_done : state.most ≤ working / 4 → 0 ≡ end_of state names edges narrowings exprs working
          unfolding end_of
          end_done l = rw (ne_eqb state.left 0 h, first, second, le-leb (2 * names) exprs c, le-leb (4 * state.most) working (omega arith))

  -- it is 0, 8 or 9
  pub end_number : {n : ℕ} → n ≡ end_of state names edges narrowings exprs working → (n ≡ 0 → ⊥) → (n ≡ 8) ⊎ (n ≡ 9)
  unfolding end_of
  end_number {n} h z = go (eqb state.left 0) (leb (4 * state.edges) edges && (leb (8 * state.recorded) narrowings && (leb (2 * names) exprs && leb (4 * state.most) working))) h
    where
      go : (x y : Bool) → n ≡ cond x 8 (cond y 0 9) → (n ≡ 8) ⊎ (n ≡ 9)
      go true y q = inl q
      go false true q = absurd (z q)
      go false false q = inr q

pub lent_is : {a a' b b' c c' d d' : List ℕ} → a ≡ a' → b ≡ b' → c ≡ c' → d ≡ d' → lent a b c d ≡ lent a' b' c' d'
lent_is p q r t = rw (p, q, r, t)

pub walked-refused : (n steps edges narrowings : ℕ) → 0 < n → turned_back n ≡ walked_of n steps edges narrowings
unfolding walked_of
walked-refused zero steps edges narrowings h = absurd (omega arith)
walked-refused (suc n) steps edges narrowings h = refl

-- `ended`
module _ (state : State) (names : ℕ) (l : Lent) {n : ℕ} (f : n ≡ end_in state names l) where
  pub still-left : n ≡ 0 → state.left ≡ 0 → ⊥
  still-left z h = absurd (omega (arith, f, z, end_over state names (length l.edges) (length l.narrowings) (length l.exprs) (length l.working) h))

module _ (state : State) (whole names : ℕ) (l : Lent) {n : ℕ} (f : n ≡ end_in state names l) where
  pub ended-refused : {r : Refusal} → (0 < n) × (r ≡ refusal_numbered n) → {l' : Lent} → l' ≡ cleared l → Ended state whole names l (Err r) l'
  ended-refused z c =
      record {
        answer = rw (← f, z.1) (walked-refused n _ _ _ z.0);
        buffers = rw (← f, ne_eqb n 0 (λ e. omega (arith, e, z.0))) c;
      }

  pub ended-done : n ≡ 0 → {working' : List ℕ} → working' ≡ zeros l.working
      → Ended state whole names l (Ok (walked (whole - state.left) state.edges state.recorded)) (lent l.edges l.narrowings l.exprs working')
  unfolding walked_of
  ended-done z c = record { answer = rw (← f, z); buffers = rw (← f, z, c) }
