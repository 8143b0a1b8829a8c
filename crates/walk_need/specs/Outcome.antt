-- `dependencies_need` as a call: it reads what `name_dependencies` reads, is lent nothing, and answers `Needed`.
use Rattle.std.specs.Prelude.{ℕ, List, [], ◌∷◌, ◌++◌, Result, Ok}
use Rattle.semantics.specs.Walk.{most_in_force}
use Rattle.lent.specs.Calls.{Rule, Call, turned_back}
use Rattle.image.specs.Refusals.{image_rules}
use Rattle.walk.specs.Outcome.{Question, tree, tables, tables_fit, steps_of, edge_count, narrowing_count, affordable}
use Rattle.codes.specs.declared.refusals.Refusal.{Refusal}
use Rattle.walk_need.specs.declared.Needed.{Needed}

-- no buffer is lent
abbrev pub Lent : Type 0
Lent = Unit {0}

abbrev pub lent : Lent
lent = tt

-- "each narrowing in force at the point that has most"
abbrev pub most_of : Question → ℕ
most_of q = most_in_force (tree q) (tables q)

-- the rules on an accepted image with tables that fit, and on an accepted image: those of `name_dependencies` that ask for no buffer
abbrev pub run_rules : Question → List Rule
run_rules q = (affordable q, 8) ∷ []

abbrev pub fit_rules : Question → List Rule
fit_rules q = (tables_fit q, 7) ∷ run_rules q

-- THE CALL
abbrev pub needing : Call Question Lent (Result Needed Refusal)
needing =
    record {
      rules = λ q l. image_rules q.image ++ fit_rules q;
      done = λ q. Ok (record { steps = steps_of q; edges = edge_count q; narrowings = narrowing_count q; most = most_of q });
      written = λ q l. l;
      refused = turned_back;
      zeroed = λ l. l;
    }

-- the numbers of an answer
abbrev pub numbers_of : Question → List ℕ
numbers_of q = steps_of q ∷ edge_count q ∷ narrowing_count q ∷ most_of q ∷ []
