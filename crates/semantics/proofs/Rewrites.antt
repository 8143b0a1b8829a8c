-- Guards that are rewritten have the same lists, and as many nodes as specs/Rewrites.antt says.
use Rattle.semantics.specs.Rewrites.{AllRewrites}
use Rattle.semantics.proofs.RewriteLaws.{rewrites, rewrite_steps}

pub all_rewrites : AllRewrites
all_rewrites t tab ordered = (rewrites t tab ordered, rewrite_steps t tab ordered)
