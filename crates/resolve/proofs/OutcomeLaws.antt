-- The ways out of the call, in the terms of the code.
use mathlib.Core.Path.{◌≡◌, refl, ap, sym, ◌∙◌}
use mathlib.Core.Bool.{Bool, true, false, cond, ◌&&◌}
use mathlib.Core.Logic.{◌⊎◌, inl, inr}
use mathlib.Core.List.{List, [], ◌∷◌, ◌++◌}
use Prim.Native.Nat.{ℕ, suc, ◌+◌, ◌*◌, ◌^◌, ◌≤◌, ◌<◌}
use native.Mathlib.Omega.{arith}
use native.Mathlib.Decide.{dec_lt}
use lib.Dec.{leb}
use lib.ListN.{length, take, drop, replicate, length-replicate}
use lib.Seq.{take_at, drop_at}
use borrow.Author.Tests.{le-leb, lt-leb, leb-true}
use Rattle.semantics.specs.Base.{keep, listed, only}
use Rattle.semantics.specs.Tree.{Tree}
use Rattle.semantics.specs.Scopes.{makes, scopes_of, resolve_steps, scopes_made, resolve_need}
use Rattle.semantics.specs.Resolution.{own}
use Rattle.semantics.specs.Formats.{resolution_table}
use Rattle.semantics.proofs.BaseLaws.{and_left, and_right}
use Rattle.image_fields.specs.Image.{expr_count, decode}
use Rattle.image_fields.proofs.ImageLaws.{tree-exprs}
use Rattle.lent.specs.Calls.{first_broken, zeros, leaves, outcome_after, refusal_of, outcome}
use Rattle.lent.proofs.CallLaws.{on_answer, on_zeroing}
use Rattle.std.specs.Prelude.{Result, Ok, Err}
use Rattle.codes.specs.declared.refusals.Refusal.{Refusal}
use Rattle.codes.specs.Refusals.{refusal_numbered}
use Rattle.resolve.specs.Outcome.{Question, Lent, question, lent, affordable, room, run_rules, written, resolving}
use Rattle.resolve.specs.Inside.Ended.{end_of}
use Rattle.resolve_counts.specs.declared.Counts.{Counts}
use Rattle.resolve_counts.specs.Inside.Visits.{Counted}
use Rattle.resolve_settle.proofs.EndLaws.{table-long}

-- `end_of`
module _ (steps budget exprs scopes table working : ℕ) where
  -- what an end without refusal says, and that a refusal is 8 or 9
  end_going : end_of steps budget exprs scopes table working ≡ 0 → (steps ≤ budget) × (2 * exprs ≤ table) × (4 * exprs + 8 * scopes ≤ working)
  unfolding end_of
  end_going h = go (leb steps budget) refl (leb (2 * exprs) table && leb (4 * exprs + 8 * scopes) working) refl h
    where
      go : (b : Bool) → leb steps budget ≡ b → (d : Bool) → (leb (2 * exprs) table && leb (4 * exprs + 8 * scopes) working) ≡ d → ◌≡◌ {A = ℕ} (cond b (cond d 0 9) 8) 0
          → (steps ≤ budget) × (2 * exprs ≤ table) × (4 * exprs + 8 * scopes ≤ working)
      go false e d f g = absurd (omega (arith, g))
      go true e false f g = absurd (omega (arith, g))
      go true e true f g = (
        leb-true steps budget e,
        leb-true _ _ (and_left (leb (2 * exprs) table) _ f),
        leb-true _ _ (and_right (leb (2 * exprs) table) _ f),
      )

  end_number : {n : ℕ} → n ≡ end_of steps budget exprs scopes table working → (n ≡ 0 → ⊥) → (n ≡ 8) ⊎ (n ≡ 9)
  unfolding end_of
  end_number {n} e z = go (leb steps budget) (leb (2 * exprs) table && leb (4 * exprs + 8 * scopes) working) e
    where
      go : (b d : Bool) → n ≡ cond b (cond d 0 9) 8 → (n ≡ 8) ⊎ (n ≡ 9)
      go false d f = inl f
      go true true f = absurd (z f)
      go true false f = inr f

zeros-same : (x y : List ℕ) → length x ≡ length y → zeros x ≡ zeros y
unfolding zeros
zeros-same x y e = rw e

-- no more scopes are made than visits
keep-few : {A : Type 0} (p : A → Bool) (l : List A) → length (keep p l) ≤ length l
unfolding keep listed only
keep-few p [] = omega arith
keep-few {A} p (x ∷ l) = go (p x) (keep-few p l)
  where
    go : (b : Bool) → length (keep p l) ≤ length l → length (listed (only {A = A} b x) ++ keep p l) ≤ suc (length l)
    go true h = omega arith
    go false h = omega arith

pub scopes_few : {t : Tree} {budget : ℕ} {r : Counts} → Counted t budget r → budget < 2 ^ 32 → r.steps ≤ budget → r.scopes < 2 ^ 33
unfolding scopes_made resolve_steps
scopes_few {t} {budget} {r} c l h = omega (arith, c.scopes_told h, c.steps-told h, keep-few (λ v. makes t v.expr) (scopes_of t))

module _ (s : List ℕ) (budget : ℕ) (table working : List ℕ) where
  abbrev q : Question
  q = question s budget

  abbrev l : Lent
  l = lent table working

  abbrev pub Ends : Result ℕ Refusal → List ℕ → List ℕ → Type 0
  Ends r t w = leaves r (lent t w) ≡ outcome_after resolving (first_broken (run_rules q l)) q l

  module _ {r : Counts} (b : Counted (decode s) budget r) {count long refusal : ℕ} (n : count ≡ expr_count s) (k : long ≡ length working)
      (e : refusal ≡ end_of r.steps budget count r.scopes (length table) long) where
    -- the refusal that the code finds is the definition's
    same_end : refusal ≡ first_broken (run_rules q l)
    unfolding end_of first_broken affordable room resolve_need
    same_end = elim (dec_lt budget r.steps) [
      | yes h ↦ e ∙ rw (lt-leb r.steps budget h, lt-leb (resolve_steps (decode s)) budget (b.over h))
      | no h ↦ let g : r.steps ≤ budget = omega (arith, h) in
          e
          ∙ rw (le-leb r.steps budget g, le-leb (resolve_steps (decode s)) budget (omega (arith, b.steps-told g)), n, b.scopes_told g, k, tree-exprs s)
    ]

    pub ended-refused : {f : Refusal} → (0 < refusal) × (f ≡ refusal_numbered refusal) → {t w : List ℕ} (y : List ℕ) → t ≡ zeros table → w ≡ zeros y → length y ≡ length working → Ends (Err f) t w
    ended-refused h y u v z = rw (← same_end, h.1, u, v, zeros-same y working z) (sym (on_zeroing resolving q l (end_number _ _ _ _ _ _ e (λ n. omega (arith, h.0, n)))))

    module _ (h : refusal ≡ 0) where
      went_on : (r.steps ≤ budget) × (2 * count ≤ length table) × (4 * count + 8 * r.scopes ≤ long)
      went_on = end_going _ _ _ _ _ _ (sym e ∙ h)

      pub within-budget : r.steps ≤ budget
      within-budget = went_on.0

      pub table-room : 2 * expr_count s ≤ length table
      table-room = rw (← n) went_on.1

      pub working-room : 4 * expr_count s ≤ length working
      working-room = rw (← n, ← k) (omega (arith, went_on.2))

      pub ended-done : {steps : ℕ} {t w : List ℕ} (y : List ℕ) → steps ≡ r.steps → t ≡ (written q l).table → w ≡ zeros y → length y ≡ length working → Ends (Ok steps) t w
      unfolding written
      ended-done {steps} y m u v z =
          rw (m ∙ b.steps-told within-budget, u, v, zeros-same y working z) (sym (on_answer resolving q l (sym same_end ∙ h)))

-- the table whose front was cleared
module _ (s table : List ℕ) {after : List ℕ} {n : ℕ} (e : n ≡ 2 * expr_count s) (h : after ≡ replicate n 0 ++ drop n table) where
  cleared-behind : drop (2 * expr_count s) after ≡ drop (2 * expr_count s) table
  cleared-behind = rw (← e) (ap (drop n) h ∙ drop_at (replicate n 0) (drop n table) n (length-replicate {A = ℕ} n 0))

  -- what stood behind the entries stands there still
  pub answered : (marks : List ℕ) {t : List ℕ} → drop (2 * expr_count s) marks ≡ drop (2 * expr_count s) after
      → t ≡ resolution_table (decode s) (own (decode s)) ++ drop (2 * expr_count s) marks → t ≡ resolution_table (decode s) (own (decode s)) ++ drop (2 * expr_count s) table
  answered marks i k = k ∙ ap (λ l. resolution_table (decode s) (own (decode s)) ++ l) (i ∙ cleared-behind)

-- the table that an answered call leaves begins with our own resolution
pub table-own : (q : Question) (l : Lent) → refusal_of resolving q l ≡ 0
    → take (2 * expr_count q.image) (outcome resolving q l).lent.table ≡ resolution_table (decode q.image) (own (decode q.image))
unfolding outcome written
table-own q l h =
    rw (on_answer resolving q l h)
    (take_at (resolution_table (decode q.image) (own (decode q.image))) (drop (2 * expr_count q.image) l.table) (2 * expr_count q.image)
    (table-long q.image))
