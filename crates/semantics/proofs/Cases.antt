-- The cases of document 01, computed from the definitions.
use mathlib.Core.Path.{refl}
use Rattle.semantics.specs.Cases.{item, child, key, expr, owner, reference, string, integer, float, bin_op, not, apply, select, lambda, let_in, name, at_each, answers, survey}
use Rattle.semantics.specs.Cases.{survey_answers, helped, helped_answers, inheriting, rec_answers, plain_answers, shared, shared_answers, implied, implied_answers, answered, Answered}
use Rattle.semantics.specs.Cases.{conditions, shadowed, rewritten, measured, under, aliased, leading, renamed, owned, starred, further, lists, Hold}
use Rattle.semantics.proofs.Compute.{computed}

unfoldable pub computed_Cases : Unit {0}
unfolding computed item child key expr owner reference string integer float bin_op not apply select lambda let_in name conditions shadowed rewritten measured under aliased leading renamed owned lists
computed_Cases = tt

unfoldable pub computed_answers : Unit {0}
unfolding computed_Cases at_each answers survey survey_answers helped helped_answers inheriting rec_answers plain_answers shared shared_answers implied implied_answers answered
computed_answers = tt

-- the printed case of `survey` and the other trees
pub answered_hold : Answered answered
unfolding computed_answers
answered_hold = (refl, (refl, (refl, (refl, (refl, (refl, tt))))))

-- THE STARRED CONDITIONS
pub starred_hold : Hold starred
unfolding computed_Cases starred
starred_hold = refl

pub further_hold : Hold further
unfolding computed_Cases further
further_hold = refl
