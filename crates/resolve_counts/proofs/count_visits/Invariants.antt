use Rattle.image_fields.specs.Image.{expr_count, decode}
use Rattle.resolve_counts.proofs.TallyLaws.{Counting}
use Rattle.resolve_counts.proofs.count_visits.Given as goal

abbrev pub invariant-loop-e : goal.invariant-loop-e
invariant-loop-e l = Counting (decode l.image.bytes.now) (expr_count l.image.bytes.now) l.e l.steps l.scopes l.room
