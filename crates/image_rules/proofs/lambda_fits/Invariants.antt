use Rattle.image_fields.specs.Image.{decode}
use Rattle.image_rules.proofs.LambdaLaws.{Fields}
use Rattle.image_rules.proofs.lambda_fits.Given as goal

abbrev pub invariant-loop-k : goal.invariant-loop-k
invariant-loop-k l = Fields (decode l.items.image.now) l.items.owner l.items.count l.k
