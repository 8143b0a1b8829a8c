use mathlib.Core.List.{[]}
use Rattle.narrow_leaf.proofs.CalleeLaws.{direct_global, direct_key}
use Rattle.narrow_leaf.proofs.callees.direct_name.Goals as goal

pub returns-in-Some : goal.returns-in-Some
returns-in-Some c = direct_global _ [] _ c.global_name.ensures c.in-Some.is

pub returns-in-None : goal.returns-in-None
returns-in-None c = direct_key _ [] _ c.global_name.ensures c.in-None.is c.builtins_key.ensures
