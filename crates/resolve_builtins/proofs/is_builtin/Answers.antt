use Rattle.resolve_builtins.proofs.BuiltinLaws.{found_there, found_nowhere}
use Rattle.resolve_builtins.proofs.is_builtin.Goals as goal

pub returns-in-Some : goal.returns-in-Some
returns-in-Some c = found_there _ _ c.requires _ c.lookup_global_builtin.ensures c.in-Some.is

pub returns-in-None : goal.returns-in-None
returns-in-None c = found_nowhere _ _ c.requires _ c.lookup_global_builtin.ensures c.in-None.is
