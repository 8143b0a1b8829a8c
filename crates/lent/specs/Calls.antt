-- What comes of a call: the shape that every call fills in (document 01, "Turned back, in checking order").
use Rattle.std.specs.Prelude.{ℕ, zero, suc, Bool, cond, ◌||◌, List, [], ◌∷◌, eqb, length, replicate, Result, Ok, Err}
use Rattle.codes.specs.declared.refusals.Refusal.{Refusal}
use Rattle.codes.specs.Refusals.{number_of, refusal_numbered}

-- a rule that is kept or broken, and the number of its refusal
abbrev pub Rule : Type 0
Rule = Bool × ℕ

-- "in checking order": the number of the first rule that is broken, 0 for none
unfoldable pub first_broken : List Rule → ℕ
first_broken [] = 0
first_broken (r ∷ rs) = cond r.0 (first_broken rs) r.1

-- "8 and 9 leave every answer and working buffer all zero"; the other refusals "write nothing"
unfoldable pub zeroes : ℕ → Bool
zeroes refusal = eqb refusal 8 || eqb refusal 9

-- what is lent after a call with this refusal, 0 for none: what the answer leaves, all zero, or what it was
unfoldable pub afterwards : {A : Type 0} → ℕ → A → A → A → A
afterwards refusal written zeroed before = cond (eqb refusal 0) written (cond (zeroes refusal) zeroed before)

-- "Each refusal is returned as its number": what a call answers that turns back, by that number
abbrev pub turned_back : {Answer : Type 0} → ℕ → Result Answer Refusal
turned_back n = Err (refusal_numbered n)

-- that number, 0 for an answer
unfoldable pub refusal_told : {Answer : Type 0} → Result Answer Refusal → ℕ
refusal_told (Ok answer) = 0
refusal_told (Err refusal) = number_of refusal

-- a buffer with all zero
unfoldable pub zeros : List ℕ → List ℕ
zeros l = replicate (length l) 0

-- A call, of what it reads (its question), what is lent to it, and what it answers.
pub record Call (Question Lent Answer : Type 0) : Type 0 where
  -- its rules in checking order
  pub rules : Question → Lent → List Rule
  -- if none is broken: its answer, and what it leaves of what is lent
  pub done : Question → Answer
  pub written : Question → Lent → Lent
  -- "Each refusal is returned as its number"; what is lent with all zero
  pub refused : ℕ → Answer
  pub zeroed : Lent → Lent

-- what a call leaves: its answer, and what was lent
pub record Outcome (Lent Answer : Type 0) : Type 0 where
  pub answer : Answer
  pub lent : Lent

abbrev pub leaves : {Lent Answer : Type 0} → Answer → Lent → Outcome Lent Answer
leaves answer lent = record { answer = answer; lent = lent }

module _ {Question Lent Answer : Type 0} (call : Call Question Lent Answer) where
  -- the answer, and all that a call leaves, after a refusal, 0 for none
  unfoldable pub answer_after : ℕ → Question → Answer
  answer_after zero q = call.done q
  answer_after (suc n) q = call.refused (suc n)

  unfoldable pub outcome_after : ℕ → Question → Lent → Outcome Lent Answer
  outcome_after refusal q l = leaves (answer_after refusal q) (afterwards refusal (call.written q l) (call.zeroed l) l)

  -- THE OUTCOME of a call: the refusal by its rules, 0 for none, and what it leaves
  unfoldable pub refusal_of : Question → Lent → ℕ
  refusal_of q l = first_broken (call.rules q l)

  unfoldable pub outcome : Question → Lent → Outcome Lent Answer
  outcome q l = outcome_after (refusal_of q l) q l

  -- the call as C sees it: it answers the number of the refusal, 0 for none, and is lent the numbers of its answer too, which count as an answer buffer
  abbrev pub exported : (Question → List ℕ) → Call Question (Lent × List ℕ) ℕ
  exported numbers =
      record {
        rules = λ q l. call.rules q l.0;
        done = λ q. 0;
        written = λ q l. (call.written q l.0, numbers q);
        refused = λ n. n;
        zeroed = λ l. (call.zeroed l.0, zeros l.1);
      }
