use Rattle.image.proofs.AcceptedLaws.{accepts_only, accepted}
use Rattle.image.proofs.accepted.Image.new.Goals as goal

pub invariant_of-result : goal.invariant_of-result
invariant_of-result c = record { accepted = accepted _ (accepts_only _ c.in_ok-check.ensures) }
