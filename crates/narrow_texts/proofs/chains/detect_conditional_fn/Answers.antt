use Rattle.narrow_texts.proofs.NumberLaws.{below}
use Rattle.narrow_texts.proofs.ChainLaws.{detects_none, detects}
use Rattle.narrow_texts.proofs.chains.detect_conditional_fn.Goals as goal

pub text-requires : goal.text-requires
text-requires c = below c.leaf_name.ensures.inside c.in_ok-name.was

pub returns-in_err-name : goal.returns-in_err-name
returns-in_err-name c = rw c.from_residual.ensures (detects_none _ _ _ c.leaf_name.ensures c.in_err-name.was)

pub returns : goal.returns
returns c = detects _ _ _ c.leaf_name.ensures c.in_ok-name.was c.text.ensures c.conditional_fn.ensures
