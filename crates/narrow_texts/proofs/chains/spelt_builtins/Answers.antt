use Rattle.narrow_texts.proofs.ChainLaws.{no-builtins, is-builtins}
use Rattle.narrow_texts.proofs.chains.spelt_builtins.Goals as goal

pub returns-in_default : goal.returns-in_default
returns-in_default c = no-builtins _ _ c.reference.ensures c.in_default.is

pub returns : goal.returns
returns c = is-builtins _ _ c.reference.ensures c.in-Some.is c.text.ensures c.same.ensures
