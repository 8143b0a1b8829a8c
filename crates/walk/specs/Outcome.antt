-- `name_dependencies` as a call: it reads an image, both tables and a budget, is lent three answers and a working buffer, and answers what a run has (`Walked`).
use Rattle.std.specs.Prelude.{ℕ, ◌*◌, ◌%◌, ◌^◌, Bool, ◌&&◌, List, [], ◌∷◌, ◌++◌, leb, length, drop, Result, Ok}
use Rattle.semantics.specs.Codes.{widths}
use Rattle.semantics.specs.Walk.{edges, recorded, walk_steps, walk_need}
use Rattle.semantics.specs.Tree.{Tree}
use Rattle.semantics.specs.Resolution.{Tables}
use Rattle.semantics.specs.Formats.{edge_list, narrowing_list, expr_table}
use Rattle.image_fields.specs.Image.{name_count, decode}
use Rattle.lent.specs.Calls.{Rule, zeros, Call, turned_back}
use Rattle.image.specs.Refusals.{image_rules}
use Rattle.given.specs.Bindings.{bindings_fit}
use Rattle.given.specs.Resolutions.{resolutions_fit}
use Rattle.given.specs.Given.{given}
use Rattle.codes.specs.declared.refusals.Refusal.{Refusal}
use Rattle.walk.specs.declared.Walked.{Walked}

pub record Question : Type 0 where
  pub image : List ℕ
  pub resolutions : List ℕ
  pub bindings : List ℕ
  pub budget : ℕ

pub record Lent : Type 0 where
  pub edges : List ℕ
  pub narrowings : List ℕ
  pub exprs : List ℕ
  pub working : List ℕ

abbrev pub question : List ℕ → List ℕ → List ℕ → ℕ → Question
question s resolutions bindings budget = record { image = s; resolutions = resolutions; bindings = bindings; budget = budget }

abbrev pub lent : List ℕ → List ℕ → List ℕ → List ℕ → Lent
lent edges narrowings exprs working = record { edges = edges; narrowings = narrowings; exprs = exprs; working = working }

-- "leave every answer and working buffer all zero"
unfoldable pub cleared : Lent → Lent
cleared l = lent (zeros l.edges) (zeros l.narrowings) (zeros l.exprs) (zeros l.working)

-- what is answered
abbrev pub walked : ℕ → ℕ → ℕ → Walked
walked steps edges narrowings = record { steps = steps; edges = edges; narrowings = narrowings }

module _ (q : Question) where
  -- the tree that the image writes, and the tables as they are given
  abbrev pub tree : Tree
  tree = decode q.image

  abbrev pub tables : Tables
  tables = given q.resolutions q.bindings

  -- 7: "wrong table length, or an entry outside what its section below allows"
  unfoldable pub tables_fit : Bool
  tables_fit = resolutions_fit q.image q.resolutions && bindings_fit q.image q.bindings

  -- the steps: "A step is one `traverse_expr` or one analysed node."; how many edges and recorded narrowings there are
  unfoldable pub steps_of : ℕ
  steps_of = walk_steps tree tables

  unfoldable pub edge_count : ℕ
  edge_count = length (edges tree tables)

  unfoldable pub narrowing_count : ℕ
  narrowing_count = length (recorded tree tables)

  -- 8: "The whole run's steps, counted as if every buffer were long enough, exceed the budget"
  unfoldable pub affordable : Bool
  affordable = leb steps_of q.budget

  -- 9: "A lent buffer is shorter than the run needs": "edges, 32", "recorded narrowings, 64", "per name 2 bytes", and the working need
  unfoldable pub room : Lent → Bool
  room l =
      leb (widths.edge * edge_count) (length l.edges) && (leb (widths.recorded * narrowing_count) (length l.narrowings)
      && (leb (widths.entry * name_count q.image) (length l.exprs)
      && leb (walk_need tree tables) (length l.working)))

  -- the buffers when the answers are written: "answer bytes past the answer are untouched", "After success working buffers are zero"
  unfoldable pub written : Lent → Lent
  written l =
      lent (edge_list tree tables ++ drop (widths.edge * edge_count) l.edges)
      (narrowing_list tree tables ++ drop (widths.recorded * narrowing_count) l.narrowings)
      (expr_table tree tables ++ drop (widths.entry * name_count q.image) l.exprs)
      (zeros l.working)

  -- the rules on an accepted image with tables that fit, and on an accepted image
  abbrev pub run_rules : Lent → List Rule
  run_rules l = (affordable, 8) ∷ (room l, 9) ∷ []

  abbrev pub fit_rules : Lent → List Rule
  fit_rules l = (tables_fit, 7) ∷ run_rules l

-- THE CALL
abbrev pub walking : Call Question Lent (Result Walked Refusal)
walking =
    record {
      rules = λ q l. image_rules q.image ++ fit_rules q l;
      done = λ q. Ok (walked (steps_of q) (edge_count q) (narrowing_count q));
      written = written;
      refused = turned_back;
      zeroed = cleared;
    }

-- The numbers of an answer. A list of 2 ^ 32 narrowings or more would take 32 GiB; its number has 32 bits, so the low ones are given.
abbrev pub numbers_of : Question → List ℕ
numbers_of q = steps_of q ∷ edge_count q ∷ narrowing_count q % 2 ^ 32 ∷ []
