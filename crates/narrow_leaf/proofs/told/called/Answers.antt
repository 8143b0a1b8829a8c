use mathlib.Core.Path.{sym, ◌∙◌}
use Rattle.narrow_leaf.proofs.ToldLaws.{no_argument, no_test, some-test}
use Rattle.narrow_leaf.proofs.told.called.Goals as goal

pub returns-in_default : goal.returns-in_default
returns-in_default c = no_argument _ _ _ _ _ c.expr_as_local_name.ensures c.in_default.is c.nothing.ensures

pub returns : goal.returns
returns c = some-test _ _ _ _ _ c.expr_as_local_name.ensures c.in-Some.is
    (sym c.in-Some-tests.is ∙ c.tests.ensures) c.narrow_info.ensures

pub returns-in_default-tests : goal.returns-in_default-tests
returns-in_default-tests c = no_test _ _ _ _ _ c.expr_as_local_name.ensures c.in-Some.is
    (sym c.in_default-tests.is ∙ c.tests.ensures) c.nothing-in_default-tests.ensures
