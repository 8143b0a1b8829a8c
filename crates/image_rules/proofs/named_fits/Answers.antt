use Rattle.image_rules.proofs.LambdaLaws.{named-turned}
use Rattle.image_rules.proofs.named_fits.Goals as goal

pub returns : goal.returns
returns c = named-turned _ _ _ c.requires.0 c.requires.1
