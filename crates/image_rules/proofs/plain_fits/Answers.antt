use Rattle.image_rules.proofs.ChildLaws.{plain-turned}
use Rattle.image_rules.proofs.plain_fits.Goals as goal

pub returns : goal.returns
returns c = plain-turned _ c.requires.0 _ c.requires.1 _ c.requires.2
