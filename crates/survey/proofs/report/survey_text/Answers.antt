use Prim.Native.Nat.{◌≤◌}
use mathlib.Core.Path.{refl, sym}
use native.Mathlib.Omega.{arith}
use lib.ListN.{length}
use Rattle.survey.specs.Survey.{survey_text}
use Rattle.survey.proofs.WholeLaws.{same_buffer, ends, text-counts, text-whole}
use Rattle.survey.proofs.BoundLaws.{text-few}
use Rattle.survey.proofs.report.survey_text.Goals as goal
use Rattle.survey.proofs.report.survey_text.Goals.{After-survey_lines}

-- no text is longer than the array
few : (c : After-survey_lines) → length (survey_text c.args.image.now) ≤ length c.args.out.now
few c = omega (arith, text-few c.args.image.now, c.told-out)

pub shape_of-out : goal.shape_of-out
shape_of-out c = sym (same_buffer refl (few c) c.survey_lines.ensures)

pub returns-clause-prefix_len : goal.returns-clause-prefix_len
returns-clause-prefix_len c = text-counts refl (few c) c.survey_lines.ensures

pub returns-clause-fact : goal.returns-clause-fact
returns-clause-fact c = (ends refl (few c) c.survey_lines.ensures, text-whole refl (few c) c.survey_lines.ensures)
