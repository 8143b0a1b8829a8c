use Rattle.walk_visit.proofs.AnswerLaws.{Copying}
use Rattle.walk_visit.proofs.answers.record_active.Given as goal

abbrev pub invariant-loop-i : goal.invariant-loop-i
invariant-loop-i l = Copying l.name l.force l.count l.working l.initial.narrowings l.narrowings l.i
