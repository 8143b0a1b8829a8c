use Rattle.narrow_run.proofs.RunLaws.{few-some}
use Rattle.narrow_run.proofs.says.Goals as goal

pub sort_and_value-requires : goal.sort_and_value-requires
sort_and_value-requires c = few-some c.requires c.in_ok-told.was
