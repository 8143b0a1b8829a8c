-- `resolution_need` as a call: it reads what a resolution reads, is lent nothing, and answers what the resolution would need (`Needed`).
use Rattle.std.specs.Prelude.{ℕ, List, [], ◌∷◌, ◌++◌, Result, Ok}
use Rattle.semantics.specs.Scopes.{scopes_made}
use Rattle.image_fields.specs.Image.{decode}
use Rattle.lent.specs.Calls.{Rule, Call, turned_back}
use Rattle.image.specs.Refusals.{image_rules}
use Rattle.resolve.specs.Outcome.{Question, steps_of, affordable}
use Rattle.codes.specs.declared.refusals.Refusal.{Refusal}
use Rattle.resolve_need.specs.declared.Needed.{Needed}

-- no buffer is lent
abbrev pub Lent : Type 0
Lent = Unit {0}

abbrev pub lent : Lent
lent = tt

-- "each scope made, root included"
abbrev pub scopes_of : Question → ℕ
scopes_of q = scopes_made (decode q.image)

-- the rules on an accepted image: 8 as of the resolution itself
abbrev pub run_rules : Question → List Rule
run_rules q = (affordable q, 8) ∷ []

-- THE CALL
abbrev pub needing : Call Question Lent (Result Needed Refusal)
needing =
    record {
      rules = λ q l. image_rules q.image ++ run_rules q;
      done = λ q. Ok (record { steps = steps_of q; scopes = scopes_of q });
      written = λ q l. l;
      refused = turned_back;
      zeroed = λ l. l;
    }

-- the numbers of an answer
abbrev pub numbers_of : Question → List ℕ
numbers_of q = steps_of q ∷ scopes_of q ∷ []
