-- The bytes of the printed case, read off document 01's output: 0 def 0, 1 builtin 15, 3 def 0, 4 def 1, 6 def 0; edge 1 0; bind 1 3; narrow 1 0 0 0.
use mathlib.Core.Path.{◌≡◌, refl}
use mathlib.Core.List.{[], ◌∷◌}
use Rattle.semantics.specs.Resolution.{own}
use Rattle.semantics.specs.Formats.{bytes_of, option_bytes, resolution_bytes, record_bytes, edge_bytes, recorded_bytes, binding_table, resolution_table, then_list, else_list, edge_list, narrowing_list, expr_table}
use Rattle.semantics.specs.Cases.{survey}
use Rattle.semantics.proofs.Compute.{computed}
use Rattle.semantics.proofs.Cases.{computed_Cases}

-- To compute with the formats: whoever unfolds this unfolds all of them.
unfoldable pub computed_Formats : Unit {0}
unfolding bytes_of option_bytes resolution_bytes record_bytes edge_bytes recorded_bytes binding_table resolution_table then_list else_list edge_list narrowing_list expr_table
computed_Formats = tt

pub survey-resolution : resolution_table survey (own survey)
    ≡ 64 ∷ 0 ∷ 128 ∷ 15 ∷ 0 ∷ 0 ∷ 64 ∷ 0 ∷ 64 ∷ 1 ∷ 0 ∷ 0 ∷ 64 ∷ 0 ∷ 0 ∷ 0 ∷ 0 ∷ 0 ∷ []
unfolding computed_Formats computed computed_Cases survey
survey-resolution = refl

pub survey-bindings : binding_table survey (own survey) ≡ 63 ∷ 255 ∷ 0 ∷ 3 ∷ []
unfolding computed_Formats computed computed_Cases survey
survey-bindings = refl

-- IsType Null and IsNotType Null of name 0
pub survey-condition : (then_list survey (own survey) 2 ≡ 0 ∷ 0 ∷ 0 ∷ 0 ∷ []) × (else_list survey (own survey) 2 ≡ 0 ∷ 0 ∷ 64 ∷ 0 ∷ [])
unfolding computed_Formats computed computed_Cases survey
survey-condition = (refl, refl)

pub survey-walk : (edge_list survey (own survey) ≡ 0 ∷ 4 ∷ 0 ∷ 0 ∷ [])
    × (narrowing_list survey (own survey) ≡ 0 ∷ 4 ∷ 0 ∷ 0 ∷ 0 ∷ 0 ∷ 0 ∷ 0 ∷ [])
    × (expr_table survey (own survey) ≡ 63 ∷ 255 ∷ 0 ∷ 3 ∷ [])
unfolding computed_Formats computed computed_Cases survey
survey-walk = (refl, refl, refl)
