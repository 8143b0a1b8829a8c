-- What comes of a call, by its rules one after the other, and by the kind of its refusal.
use mathlib.Core.Path.{◌≡◌, refl, ap, ◌∙◌}
use mathlib.Core.Bool.{Bool, true, false, cond}
use mathlib.Core.Logic.{◌⊎◌, inl, inr}
use mathlib.Core.List.{List, [], ◌∷◌, ◌++◌}
use Prim.Native.Nat.{ℕ, zero, suc, ◌≤◌, ◌<◌}
use native.Mathlib.Omega.{arith}
use borrow.Author.Tests.{ne_eqb}
use Rattle.semantics.specs.Base.{All}
use Rattle.semantics.proofs.BaseLaws.{All_to}
use Rattle.codes.specs.declared.refusals.Refusal.{Refusal}
use Rattle.codes.specs.declared.refusals.Refusal.TheVariants.{Length, Entry, Text, Name, Expr, Item, Given, OverBudget, BufferTooShort, NotSmaller, InheritsOther}
use Rattle.codes.specs.Refusals.{number_of, refusal_numbered}
use Rattle.std.specs.Prelude.{Result, Ok, Err}
use Rattle.lent.specs.Calls.{Rule, first_broken, zeroes, afterwards, Call, leaves, turned_back, refusal_told, answer_after, outcome_after, refusal_of, outcome}

-- a rule that is kept, one that is broken
pub keeps : {b : Bool} (n : ℕ) (rs : List Rule) → b ≡ true → first_broken ((b, n) ∷ rs) ≡ first_broken rs
unfolding first_broken
keeps n rs h = rw h

pub breaks : {b : Bool} (n : ℕ) (rs : List Rule) → b ≡ false → first_broken ((b, n) ∷ rs) ≡ n
unfolding first_broken
breaks n rs h = rw h

pub keeps_last : {b : Bool} (n : ℕ) → b ≡ true → first_broken ((b, n) ∷ []) ≡ 0
unfolding first_broken
keeps_last n h = rw h

-- no rule is broken: the first is kept, and so are the others
pub kept : (r : Rule) (rs : List Rule) → (r.1 ≡ 0 → ⊥) → first_broken (r ∷ rs) ≡ 0 → (r.0 ≡ true) × (first_broken rs ≡ 0)
unfolding first_broken
kept r rs n h = go r.0 h
  where
    go : (b : Bool) → cond b (first_broken rs) r.1 ≡ 0 → (b ≡ true) × (first_broken rs ≡ 0)
    go true e = (refl, e)
    go false e = absurd (n e)

-- rules in front of others, which all have a number: kept, broken
pub behind-kept : (rs more : List Rule) → All (λ r. 0 < r.1) rs → first_broken rs ≡ 0 → first_broken (rs ++ more) ≡ first_broken more
unfolding first_broken
behind-kept [] more p h = refl
behind-kept (r ∷ rs) more p h = go r.0 h (behind-kept rs more p.1)
  where
    go : (b : Bool) → cond b (first_broken rs) r.1 ≡ 0 → (first_broken rs ≡ 0 → first_broken (rs ++ more) ≡ first_broken more)
        → cond b (first_broken (rs ++ more)) r.1 ≡ first_broken more
    go true e f = f e
    go false e f = absurd (omega (arith, p.0, e))

pub behind_broken : (rs more : List Rule) {n : ℕ} → first_broken rs ≡ n → 0 < n → first_broken (rs ++ more) ≡ n
unfolding first_broken
behind_broken [] more h l = absurd (omega (arith, h, l))
behind_broken (r ∷ rs) more {n} h l = go r.0 h (λ e. behind_broken rs more e l)
  where
    go : (b : Bool) → cond b (first_broken rs) r.1 ≡ n → (first_broken rs ≡ n → first_broken (rs ++ more) ≡ n)
        → cond b (first_broken (rs ++ more)) r.1 ≡ n
    go true e f = f e
    go false e f = e

pub front_kept : (rs more : List Rule) → first_broken (rs ++ more) ≡ 0 → first_broken rs ≡ 0
unfolding first_broken
front_kept [] more h = refl
front_kept (r ∷ rs) more h = go r.0 h (front_kept rs more)
  where
    go : (b : Bool) → cond b (first_broken (rs ++ more)) r.1 ≡ 0 → (first_broken (rs ++ more) ≡ 0 → first_broken rs ≡ 0) → cond b (first_broken rs) r.1 ≡ 0
    go true e f = f e
    go false e f = e

-- what holds of 0 and of the number of each rule holds of the refusal
pub broken_has : (P : ℕ → Type 0) → P 0 → (rs : List Rule) → All (λ r. P r.1) rs → P (first_broken rs)
unfolding first_broken
broken_has P z [] h = z
broken_has P z (r ∷ rs) h = go r.0 (broken_has P z rs h.1)
  where
    go : (b : Bool) → P (first_broken rs) → P (cond b (first_broken rs) r.1)
    go true f = f
    go false f = h.0

-- a refusal of 1 to 7, or above 9, zeroes nothing
pub below_eight : (n : ℕ) → n ≤ 7 → zeroes n ≡ false
unfolding zeroes
below_eight n l = rw (ne_eqb n 8 (λ e. absurd (omega arith)), ne_eqb n 9 (λ e. absurd (omega arith)))

pub above_nine : (n : ℕ) → 10 ≤ n → zeroes n ≡ false
unfolding zeroes
above_nine n l = rw (ne_eqb n 8 (λ e. absurd (omega arith)), ne_eqb n 9 (λ e. absurd (omega arith)))

-- what is lent, by the refusal
module _ {A : Type 0} (written zeroed before : A) where
  pub after_answer : afterwards 0 written zeroed before ≡ written
  unfolding afterwards
  after_answer = refl

  pub after_zeroing : (n : ℕ) → (n ≡ 8) ⊎ (n ≡ 9) → afterwards n written zeroed before ≡ zeroed
  unfolding afterwards zeroes
  after_zeroing n (inl h) = rw h
  after_zeroing n (inr h) = rw h

  pub after_other : (n : ℕ) → 0 < n → zeroes n ≡ false → afterwards n written zeroed before ≡ before
  unfolding afterwards
  after_other n h z = rw (ne_eqb n 0 (λ e. absurd (omega arith)), z)

-- all that is left, by the refusal
module _ {Question Lent Answer : Type 0} (call : Call Question Lent Answer) (q : Question) (l : Lent) where
  pub on_answer : {n : ℕ} → n ≡ 0 → outcome_after call n q l ≡ leaves (call.done q) (call.written q l)
  unfolding outcome_after answer_after afterwards
  on_answer h = rw h

  refused_so : (n : ℕ) → 0 < n → answer_after call n q ≡ call.refused n
  unfolding answer_after
  refused_so zero h = absurd (omega arith)
  refused_so (suc n) h = refl

  pub on_zeroing : {n : ℕ} → (n ≡ 8) ⊎ (n ≡ 9) → outcome_after call n q l ≡ leaves (call.refused n) (call.zeroed l)
  unfolding outcome_after
  on_zeroing {n} h = rw (refused_so n (number h), after_zeroing (call.written q l) (call.zeroed l) l n h)
    where
      number : (n ≡ 8) ⊎ (n ≡ 9) → 0 < n
      number (inl e) = omega (arith, e)
      number (inr e) = omega (arith, e)

  pub on_other : {n : ℕ} → 0 < n → zeroes n ≡ false → outcome_after call n q l ≡ leaves (call.refused n) l
  unfolding outcome_after
  on_other {n} h z = rw (refused_so n h, after_other (call.written q l) (call.zeroed l) l n h z)

-- the refusal is told by the answer: by any number that is 0 of an answer and the number of a refusal
module _ {Question Lent Answer : Type 0} (call : Call Question Lent Answer) (told : Answer → ℕ) (q : Question) (l : Lent)
    (of-done : told (call.done q) ≡ 0) (of-refused : All (λ r. told (answer_after call r.1 q) ≡ r.1) (call.rules q l)) where
  pub refusal_told_lem : {r : Answer} {l' : Lent} → leaves r l' ≡ outcome call q l → told r ≡ refusal_of call q l
  unfolding outcome outcome_after answer_after refusal_of
  refusal_told_lem e = ap (λ o. told o.answer) e ∙ broken_has (λ n. told (answer_after call n q) ≡ n) of-done (call.rules q l) of-refused

-- an answer is given only where no rule is broken
module _ {Question Lent Answer : Type 0} (call : Call Question Lent (Result Answer Refusal)) (q : Question) (l : Lent) (back : (n : ℕ) → call.refused n ≡ turned_back n) where
  pub answered_only : {a : Answer} {l' : Lent} → leaves (Ok a) l' ≡ outcome call q l → refusal_of call q l ≡ 0
  unfolding outcome outcome_after answer_after
  answered_only {a} e = go (refusal_of call q l) (ap (λ o. o.answer) e)
    where
      go : (n : ℕ) → Ok a ≡ answer_after call n q → n ≡ 0
      go zero h = refl
      go (suc n) h = absurd (let g : Ok a ≡ Err (refusal_numbered (suc n)) = h ∙ back (suc n) in let z : ◌≡◌ {A = ℕ} 0 1 = cc in omega arith)

-- the refusal is told by the answer where each rule's number is that of a refusal
abbrev pub Numbered : Rule → Type 0
Numbered r = number_of (refusal_numbered r.1) ≡ r.1

module _ {Question Lent Answer : Type 0} (call : Call Question Lent (Result Answer Refusal)) (q : Question) (l : Lent) (back : (n : ℕ) → call.refused n ≡ turned_back n) where
  pub told_refusal : {a : Answer} → call.done q ≡ Ok a → All Numbered (call.rules q l) → {r : Result Answer Refusal} {l' : Lent} → leaves r l' ≡ outcome call q l → refusal_told r ≡ refusal_of call q l
  unfolding outcome outcome_after answer_after refusal_of refusal_told
  told_refusal d h e =
      ap (λ o. refusal_told o.answer) e
      ∙ go (refusal_of call q l) (broken_has (λ n. (n ≡ 0) ⊎ (number_of (refusal_numbered n) ≡ n)) (inl refl) (call.rules q l) (All_to Numbered _ (call.rules q l) (λ r f. inr f) h))
    where
      go : (n : ℕ) → (n ≡ 0) ⊎ (number_of (refusal_numbered n) ≡ n) → refusal_told (answer_after call n q) ≡ n
      go zero h = ap refusal_told d
      go (suc n) (inl z) = absurd (omega (arith, z))
      go (suc n) (inr h) = ap refusal_told (back (suc n)) ∙ h

pub refusal-positive : (r : Refusal) → 0 < number_of r
refusal-positive Length = omega arith
refusal-positive Entry = omega arith
refusal-positive Text = omega arith
refusal-positive Name = omega arith
refusal-positive Expr = omega arith
refusal-positive Item = omega arith
refusal-positive Given = omega arith
refusal-positive OverBudget = omega arith
refusal-positive BufferTooShort = omega arith
refusal-positive NotSmaller = omega arith
refusal-positive InheritsOther = omega arith
