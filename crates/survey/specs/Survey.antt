-- The whole text of an image (document 01, "`survey` reads an image .. and prints").
use Rattle.std.specs.Prelude.{ℕ, cond, List, [], ◌∷◌, ◌++◌, eqb, leb, length, replicate}
use Rattle.semantics.specs.Tree.{bytes}
use Rattle.semantics.specs.Scopes.{resolve_steps}
use Rattle.semantics.specs.Resolution.{own}
use Rattle.semantics.specs.Walk.{walk_steps}
use Rattle.semantics.specs.Formats.{edge_list, expr_table, narrowing_list}
use Rattle.image_fields.specs.Image.{decode}
use Rattle.lent.specs.Calls.{refusal_of}
use Rattle.resolve.specs.Outcome.{question, lent as resolve_lent, resolving}
use Rattle.walk.specs.Outcome.{lent as walk_lent, walking}
use Rattle.index.specs.Own.{own_resolutions}
use Rattle.walk.specs.Running.{own_question}
use Rattle.survey_lines.specs.Text.{line}
use Rattle.survey_lines.specs.Lines.{resolution_lines, edge_lines, bind_lines, narrow_lines}

-- "budget 65,535 a call and 65,536 bytes for each answer and working buffer"
abbrev pub budget : ℕ
budget = 65535

unfoldable pub buffer : List ℕ
buffer = replicate 65536 0

-- "A refusal prints `refused` and its number": of the resolution, of the walk, 0 for none
unfoldable pub resolve_refused : List ℕ → ℕ
resolve_refused s = refusal_of resolving (question s budget) (resolve_lent buffer buffer)

unfoldable pub walk_refused : List ℕ → ℕ
walk_refused s = refusal_of walking (own_question s budget) (walk_lent buffer buffer buffer buffer)

abbrev pub refused_text : ℕ → List ℕ
refused_text number = line (bytes "refused") (number ∷ [])

-- the walk's part
unfoldable pub walked_text : List ℕ → List ℕ
walked_text s =
    line (bytes "walk") (walk_steps (decode s) (own (decode s)) ∷ [])
    ++ edge_lines (edge_list (decode s) (own (decode s)))
    ++ bind_lines (expr_table (decode s) (own (decode s)))
    ++ narrow_lines (narrowing_list (decode s) (own (decode s)))

unfoldable pub walk_text : List ℕ → List ℕ
walk_text s = cond (eqb (walk_refused s) 0) (walked_text s) (refused_text (walk_refused s))

-- the resolution's part, and the walk's behind it
unfoldable pub resolved_text : List ℕ → List ℕ
resolved_text s = line (bytes "resolve") (resolve_steps (decode s) ∷ []) ++ resolution_lines (own_resolutions s) ++ walk_text s

-- THE TEXT: "instead of its part; a refused resolve ends the output"
unfoldable pub survey_text : List ℕ → List ℕ
survey_text s = cond (eqb (resolve_refused s) 0) (resolved_text s) (refused_text (resolve_refused s))

-- what the program prints of its whole input: an image has at most 65,536 bytes
unfoldable pub printed : List ℕ → List ℕ
printed s = cond (leb (length s) 65536) (survey_text s) (line (bytes "too long") [])
