use Rattle.narrow_leaf.proofs.ToldLaws.{compared-first, compared-second, compared_neither}
use Rattle.narrow_leaf.proofs.told.compared.Goals as goal

pub returns-in-Some : goal.returns-in-Some
returns-in-Some c = compared-first _ _ _ _ c.try_literal_comparison.ensures c.in-Some.is c.literal_info.ensures

pub returns-in-Some-try_literal_comparison : goal.returns-in-Some-try_literal_comparison
returns-in-Some-try_literal_comparison c = compared-second _ _ _ _ c.try_literal_comparison.ensures c.in_default.is
    c.try_literal_comparison-2.ensures c.in-Some-try_literal_comparison.is c.literal_info-in-Some-try_literal_comparison.ensures

pub returns-in-None : goal.returns-in-None
returns-in-None c = compared_neither _ _ _ _ c.try_literal_comparison.ensures c.in_default.is
    c.try_literal_comparison-2.ensures c.in-None.is c.nothing.ensures
