use Rattle.walk_visit.proofs.AnswerLaws.{binding-recorded}
use Rattle.walk_visit.proofs.answers.record_binding.Goals as goal

pub returns : goal.returns
returns c = binding-recorded c.put16.ensures c.record_active.ensures
