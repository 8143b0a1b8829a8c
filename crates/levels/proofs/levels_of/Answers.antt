use native.Mathlib.Omega.{arith}
use Rattle.levels.proofs.LoopLaws.{levels_small}
use Rattle.levels.proofs.levels_of.Goals as goal

pub overflow_cast-result : goal.overflow_cast-result
overflow_cast-result c = omega (arith, c.levels_within.ensures, levels_small _ c.args.image.accepted)

pub overflow_cast-result-then-exprs-le-SOME : goal.overflow_cast-result-then-exprs-le-SOME
overflow_cast-result-then-exprs-le-SOME c = omega (arith, c.levels_within-then-exprs-le-SOME.ensures, levels_small _ c.args.image.accepted)

pub overflow_cast-result-2 : goal.overflow_cast-result-2
overflow_cast-result-2 c = omega (arith, c.levels_within-2.ensures, levels_small _ c.args.image.accepted)
