use Rattle.narrow_leaf.proofs.CalleeLaws.{not_like, like}
use Rattle.narrow_leaf.proofs.callees.spelt_like.Goals as goal

pub returns-in_default : goal.returns-in_default
returns-in_default c = not_like _ _ c.reference.ensures _ c.in_default.is

pub returns : goal.returns
returns c = like _ _ c.reference.ensures _ c.in-Some.is c.text.ensures c.text-2.ensures c.same.ensures
