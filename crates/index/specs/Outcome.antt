-- `compute_module_indices` as a call: it reads an image, is lent a table, and answers that it is written.
use Rattle.std.specs.Prelude.{ℕ, ◌*◌, Bool, List, [], ◌∷◌, ◌++◌, leb, length, drop, Result, Ok}
use Rattle.semantics.specs.Codes.{widths}
use Rattle.semantics.specs.Resolution.{own}
use Rattle.semantics.specs.Formats.{binding_table}
use Rattle.image_fields.specs.Image.{name_count, decode}
use Rattle.lent.specs.Calls.{Rule, zeros, Call, turned_back}
use Rattle.image.specs.Refusals.{image_rules}
use Rattle.codes.specs.declared.refusals.Refusal.{Refusal}

-- 9: "A lent buffer is shorter than the run needs": "2 bytes a name"
unfoldable pub room : List ℕ → List ℕ → Bool
room s table = leb (widths.entry * name_count s) (length table)

-- the rules on an accepted image
abbrev pub own_rules : List ℕ → List ℕ → List Rule
own_rules s table = (room s table, 9) ∷ []

-- the table when it is written: "2 bytes a name", "answer bytes past the answer are untouched"
unfoldable pub written : List ℕ → List ℕ → List ℕ
written s table = binding_table (decode s) (own (decode s)) ++ drop (widths.entry * name_count s) table

-- THE CALL
abbrev pub indexing : Call (List ℕ) (List ℕ) (Result (Unit {0}) Refusal)
indexing =
    record { rules = λ s table. image_rules s ++ own_rules s table; done = λ s. Ok tt; written = written; refused = turned_back; zeroed = zeros }
