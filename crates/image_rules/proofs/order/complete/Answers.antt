use Rattle.image_rules.proofs.OrderLaws.{complete-from}
use Rattle.image_rules.proofs.order.complete.Goals as goal

pub returns : goal.returns
returns c = complete-from _ c.requires
