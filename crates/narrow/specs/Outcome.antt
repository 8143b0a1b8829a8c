-- `analyze_condition` as a call: it reads an image, both tables, a condition and a budget, is lent two lists, and answers what a run has (`Analyzed`).
use Rattle.std.specs.Prelude.{ℕ, ◌*◌, Bool, true, false, ◌&&◌, List, [], ◌∷◌, ◌++◌, leb, ltb, length, drop, Result, Ok}
use Rattle.semantics.specs.Codes.{widths}
use Rattle.semantics.specs.Narrow.{nodes, analyze}
use Rattle.semantics.specs.Tree.{Tree}
use Rattle.semantics.specs.Resolution.{Tables}
use Rattle.semantics.specs.Formats.{then_list, else_list}
use Rattle.image_fields.specs.Image.{expr_count, decode}
use Rattle.lent.specs.Calls.{Rule, zeros, Call, turned_back}
use Rattle.image.specs.Refusals.{image_rules}
use Rattle.given.specs.Bindings.{bindings_fit}
use Rattle.given.specs.Resolutions.{resolutions_fit}
use Rattle.given.specs.Given.{given}
use Rattle.codes.specs.declared.refusals.Refusal.{Refusal}
use Rattle.narrow.specs.declared.Analyzed.{Analyzed}

pub record Question : Type 0 where
  pub image : List ℕ
  pub resolutions : List ℕ
  pub bindings : List ℕ
  pub condition : ℕ
  pub budget : ℕ

pub record Lent : Type 0 where
  pub thens : List ℕ
  pub elses : List ℕ

abbrev pub question : List ℕ → List ℕ → List ℕ → ℕ → ℕ → Question
question s resolutions bindings c budget = record { image = s; resolutions = resolutions; bindings = bindings; condition = c; budget = budget }

abbrev pub lent : List ℕ → List ℕ → Lent
lent thens elses = record { thens = thens; elses = elses }

-- what is answered
abbrev pub analyzed : ℕ → ℕ → ℕ → Analyzed
analyzed steps thens elses = record { steps = steps; thens = thens; elses = elses }

module _ (q : Question) where
  -- the tree that the image writes, and the tables as they are given
  abbrev pub tree : Tree
  tree = decode q.image

  abbrev pub tables : Tables
  tables = given q.resolutions q.bindings

  -- 7: "expression not below E, wrong table length, or an entry outside what its section below allows"
  unfoldable pub numbers_fit : Bool
  numbers_fit =
      ltb q.condition (expr_count q.image) && (resolutions_fit q.image q.resolutions && bindings_fit q.image q.bindings)

  -- the steps: "A step is one analysed node"; the records of the list for an outcome
  unfoldable pub steps_of : ℕ
  steps_of = nodes tree q.condition

  unfoldable pub count_of : Bool → ℕ
  count_of b = length (analyze tree tables b q.condition)

  -- 8: "The whole run's steps, counted as if every buffer were long enough, exceed the budget"
  unfoldable pub affordable : Bool
  affordable = leb steps_of q.budget

  -- 9: "A lent buffer is shorter than the run needs": 4 bytes a record
  unfoldable pub room : Lent → Bool
  room l = leb (widths.narrowing * count_of true) (length l.thens) && leb (widths.narrowing * count_of false) (length l.elses)

  -- the lists when they are written: "Record, 32", "answer bytes past the answer are untouched"
  unfoldable pub written : Lent → Lent
  written l =
      lent (then_list tree tables q.condition ++ drop (widths.narrowing * count_of true) l.thens)
      (else_list tree tables q.condition ++ drop (widths.narrowing * count_of false) l.elses)

  -- the rules on an accepted image with numbers and tables that fit, and on an accepted image
  abbrev pub run_rules : Lent → List Rule
  run_rules l = (affordable, 8) ∷ (room l, 9) ∷ []

  abbrev pub fit_rules : Lent → List Rule
  fit_rules l = (numbers_fit, 7) ∷ run_rules l

-- THE CALL
abbrev pub analysis : Call Question Lent (Result Analyzed Refusal)
analysis =
    record {
      rules = λ q l. image_rules q.image ++ fit_rules q l;
      done = λ q. Ok (analyzed (steps_of q) (count_of q true) (count_of q false));
      written = written;
      refused = turned_back;
      zeroed = λ l. lent (zeros l.thens) (zeros l.elses);
    }

-- the numbers of an answer
abbrev pub numbers_of : Question → List ℕ
numbers_of q = steps_of q ∷ count_of q true ∷ count_of q false ∷ []
