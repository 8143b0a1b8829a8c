use mathlib.Core.Path.{sym}
use Rattle.semantics.specs.Words.{globals}
use Rattle.resolve_builtins.proofs.BuiltinLaws.{too_long, place_as}
use Rattle.resolve_builtins.proofs.lookup_global_builtin.Goals as goal

pub returns-then-text-gt-LONGEST : goal.returns-then-text-gt-LONGEST
returns-then-text-gt-LONGEST c = too_long _ c.if-text-gt-LONGEST.true

pub returns : goal.returns
unfolding globals
returns c = place_as _ _ (sym c.place_among.ensures)
