use mathlib.Core.Path.{refl, sym, ◌∙◌}
use Rattle.image.proofs.AcceptedLaws.{accepts_only, refuses_only}
use native.Mathlib.Omega.{arith}
use Rattle.walk.specs.Outcome.{lent}
use Rattle.walk.proofs.EndLaws.{still-left, ended-refused, ended-done}
use Rattle.walk.proofs.ended.ended.Goals as goal

pub end_of-requires : goal.end_of-requires
end_of-requires c = c.requires.names-few

pub returns-in-Err : goal.returns-in-Err
returns-in-Err c = ended-refused _ _ _ (lent c.args.edges.now c.args.narrowings.now c.args.exprs.now c.args.working.now) refl (refuses_only _ _ (sym c.in-Err.is ∙ c.end_of.ensures)) c.clear_all.ensures

pub overflow_sub-result : goal.overflow_sub-result
overflow_sub-result c = omega (arith, c.requires.edges_few)

pub overflow_cast-result : goal.overflow_cast-result
overflow_cast-result c = omega (arith, c.requires.few, still-left _ _ (lent c.args.edges.now c.args.narrowings.now c.args.exprs.now c.args.working.now) refl (accepts_only _ (sym c.in_default.is ∙ c.end_of.ensures)))

pub overflow_cast-result-2 : goal.overflow_cast-result-2
overflow_cast-result-2 c = omega (arith, c.requires.few, c.requires.edges_few, still-left _ _ (lent c.args.edges.now c.args.narrowings.now c.args.exprs.now c.args.working.now) refl (accepts_only _ (sym c.in_default.is ∙ c.end_of.ensures)))

pub returns : goal.returns
returns c = ended-done _ _ _ (lent c.args.edges.now c.args.narrowings.now c.args.exprs.now c.args.working.now) refl (accepts_only _ (sym c.in_default.is ∙ c.end_of.ensures)) c.clear.ensures
