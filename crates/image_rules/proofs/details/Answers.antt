use mathlib.Core.Path.{refl}
use Rattle.image_rules.specs.Rules.{detail_count}
use Rattle.image_rules.proofs.RuleLaws.{marked, details-at}
use Rattle.image_rules.proofs.details.Goals as goal

pub returns : goal.returns
unfolding marked
returns c = details-at detail_count _ refl _ c.requires c.part.ensures
