use mathlib.Core.Path.{◌≡◌}
use lib.ListN.{length}
use Rattle.walk_counts.proofs.TallyLaws.{Counting}
use Rattle.walk_counts.proofs.count_visits.Given as goal

abbrev pub invariant-loop-e : goal.invariant-loop-e
invariant-loop-e l = Counting l.image.bytes.now l.resolutions l.budget l.e l.steps l.visits
    × (length l.visits ≡ length l.initial.visits)
