use Rattle.given.proofs.EntryLaws.{got_definition, got_builtin, got_with, got_nothing}
use Rattle.given.proofs.get.Goals as goal

pub returns-in-1 : goal.returns-in-1
returns-in-1 c = got_definition _ _ c.tag.ensures c.in-1.is c.value.ensures

pub returns-in-2 : goal.returns-in-2
returns-in-2 c = got_builtin _ _ c.tag.ensures c.in-2.is c.value-in-2.ensures

pub returns-in-3 : goal.returns-in-3
returns-in-3 c = got_with _ _ c.tag.ensures c.in-3.is c.value-in-3.ensures

pub returns-in_default : goal.returns-in_default
returns-in_default c = got_nothing _ _ c.tag.ensures c.in_default.in_default-own.rest.0.0.1 c.in_default.in_default-own.rest.0.1 c.in_default.in_default-own.rest.1
