-- `compute_name_resolution` as a call: it reads an image and a budget, is lent a table and a working buffer, and answers the steps of the run.
use Rattle.std.specs.Prelude.{ℕ, ◌*◌, Bool, ◌&&◌, List, [], ◌∷◌, ◌++◌, leb, length, drop, Result, Ok}
use Rattle.semantics.specs.Codes.{widths}
use Rattle.semantics.specs.Scopes.{resolve_steps, resolve_need}
use Rattle.semantics.specs.Resolution.{own}
use Rattle.semantics.specs.Formats.{resolution_table}
use Rattle.image_fields.specs.Image.{expr_count, decode}
use Rattle.lent.specs.Calls.{Rule, zeros, Call, turned_back}
use Rattle.image.specs.Refusals.{image_rules}
use Rattle.codes.specs.declared.refusals.Refusal.{Refusal}

pub record Question : Type 0 where
  pub image : List ℕ
  pub budget : ℕ

pub record Lent : Type 0 where
  pub table : List ℕ
  pub working : List ℕ

abbrev pub question : List ℕ → ℕ → Question
question s budget = record { image = s; budget = budget }

abbrev pub lent : List ℕ → List ℕ → Lent
lent table working = record { table = table; working = working }

-- "A step is one `traverse_expr` call."
abbrev pub steps_of : Question → ℕ
steps_of q = resolve_steps (decode q.image)

-- 8: "The whole run's steps, counted as if every buffer were long enough, exceed the budget"
unfoldable pub affordable : Question → Bool
affordable q = leb (steps_of q) q.budget

-- 9: "A lent buffer is shorter than the run needs": "2 bytes an expression"; "Working need: 4E bytes, and 8 more for each scope made, root included."
unfoldable pub room : Question → Lent → Bool
room q l = leb (widths.entry * expr_count q.image) (length l.table) && leb (resolve_need (decode q.image)) (length l.working)

-- the rules on an accepted image
abbrev pub run_rules : Question → Lent → List Rule
run_rules q l = (affordable q, 8) ∷ (room q l, 9) ∷ []

-- what is lent when the answer is written: "2 bytes an expression", "answer bytes past the answer are untouched", "After success working buffers are zero"
unfoldable pub written : Question → Lent → Lent
written q l =
    lent (resolution_table (decode q.image) (own (decode q.image)) ++ drop (widths.entry * expr_count q.image) l.table) (zeros l.working)

-- THE CALL
abbrev pub resolving : Call Question Lent (Result ℕ Refusal)
resolving =
    record {
      rules = λ q l. image_rules q.image ++ run_rules q l;
      done = λ q. Ok (steps_of q);
      written = written;
      refused = turned_back;
      zeroed = λ l. lent (zeros l.table) (zeros l.working);
    }

-- the numbers of an answer
abbrev pub numbers_of : Question → List ℕ
numbers_of q = steps_of q ∷ []
