use Rattle.std.proofs.Common.{rules}
use Rattle.narrow_leaf.proofs.CalleeLaws.{named-test, key-test, no_test}
use Rattle.narrow_texts.proofs.NumberLaws.{below}
use Rattle.narrow_leaf.proofs.callees.tests.Goals as goal

pub text-requires : goal.text-requires
text-requires c = below c.predicate_name.ensures.inside c.in-Some.is

pub returns-in-Some : goal.returns-in-Some
returns-in-Some c = named-test _ _ _ _ c.predicate_name.ensures c.in-Some.is c.text.ensures c.predicate_named.ensures

pub returns : goal.returns
returns c = search (rules, key-test, no_test)
