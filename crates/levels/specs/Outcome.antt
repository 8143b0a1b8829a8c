-- `compute_levels` as a call: it reads an image, is lent nothing, and answers the levels.
use Rattle.std.specs.Prelude.{ℕ, List, [], ◌∷◌, ◌++◌, Result, Ok}
use Rattle.image_fields.specs.Image.{decode}
use Rattle.lent.specs.Calls.{Rule, Call, turned_back}
use Rattle.image.specs.Refusals.{image_rules}
use Rattle.levels.specs.Depth.{levels_of}
use Rattle.codes.specs.declared.refusals.Refusal.{Refusal}

-- no buffer is lent
abbrev pub Lent : Type 0
Lent = Unit {0}

abbrev pub lent : Lent
lent = tt

-- an accepted image has no further rule
abbrev pub own_rules : List Rule
own_rules = []

-- THE CALL
abbrev pub levelling : Call (List ℕ) Lent (Result ℕ Refusal)
levelling =
    record {
      rules = λ s l. image_rules s ++ own_rules;
      done = λ s. Ok (levels_of (decode s));
      written = λ s l. l;
      refused = turned_back;
      zeroed = λ l. l;
    }

-- the numbers of an answer
abbrev pub numbers_of : List ℕ → List ℕ
numbers_of s = levels_of (decode s) ∷ []
