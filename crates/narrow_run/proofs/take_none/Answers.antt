use Rattle.narrow_run.proofs.RunLaws.{neither}
use Rattle.narrow_run.proofs.take_none.Goals as goal

pub returns-then-eq : goal.returns-then-eq
returns-then-eq c = record { thens = λ z. neither _ c.eq.ensures c.if-eq.true; elses = λ z. neither _ c.eq-then-eq.ensures z }
