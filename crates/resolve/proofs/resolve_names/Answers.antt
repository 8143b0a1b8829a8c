use mathlib.Core.Path.{sym}
use Rattle.image.proofs.AcceptedLaws.{accepts_only, refuses_only}
use mathlib.Core.Path.{refl, ap, ◌∙◌}
use Prim.Native.Nat.{◌*◌, ◌≤◌}
use native.Mathlib.Omega.{arith}
use lib.ListN.{length}
use Rattle.resolve_events.proofs.VisitLaws.{cleared}
use Rattle.resolve.specs.Outcome.{written}
use Rattle.resolve.proofs.OutcomeLaws.{scopes_few, ended-refused, within-budget, table-room, working-room, ended-done, answered}
use Rattle.resolve.proofs.resolve_names.Goals as goal
use Rattle.resolve.proofs.resolve_names.Goals.{In_default}

-- what is lent has room for the run
table_fits : (c : In_default) → 2 * c.expr_count-exprs.result ≤ length c.args.table.now
table_fits c = rw c.expr_count-exprs.ensures (table-room _ _ c.args.table.now c.args.working.now c.count_apart-steps.ensures c.expr_count-exprs.ensures refl refl (accepts_only _ (sym c.in_default.is ∙ c.end_of.ensures)))

working_fits : (c : In_default) → 4 * c.expr_count-exprs.result ≤ length c.args.working.now
working_fits c = rw c.expr_count-exprs.ensures (working-room _ _ c.args.table.now c.args.working.now c.count_apart-steps.ensures c.expr_count-exprs.ensures refl refl (accepts_only _ (sym c.in_default.is ∙ c.end_of.ensures)))

pub end_of-requires-clause-scopes_bound : goal.end_of-requires-clause-scopes_bound
end_of-requires-clause-scopes_bound c = scopes_few c.count_apart-steps.ensures (omega arith)

pub returns-in-Err : goal.returns-in-Err
returns-in-Err c = ended-refused _ _ c.args.table.now c.args.working.now c.count_apart-steps.ensures c.expr_count-exprs.ensures
    refl refl (refuses_only _ _ (sym c.in-Err.is ∙ c.end_of.ensures)) _ c.clear.ensures c.clear-in-Err.ensures
    refl

pub clear_first-requires : goal.clear_first-requires
clear_first-requires c = table_fits ((goal.at.clear_first-requires c).In_default)

pub trace-events-requires : goal.trace-events-requires
trace-events-requires c = cleared {s = c.args.image.bytes.now} c.args.table.now c.expr_count-exprs.ensures
    (table_fits ((goal.at.trace-events-requires c).In_default))
    (working_fits ((goal.at.trace-events-requires c).In_default)) c.clear_first.ensures

pub settle-requires-clause-lent : goal.settle-requires-clause-lent
settle-requires-clause-lent c = record {
  room = omega (arith, working_fits ((goal.at.settle-requires-clause-lent c).In_default), c.expr_count-exprs.ensures, c.trace-events.auto.working);
  table_fits = omega (arith, table_fits ((goal.at.settle-requires-clause-lent c).In_default), c.expr_count-exprs.ensures, c.clear_first.auto.buffer, c.trace-events.auto.table);
}

pub overflow_cast-result : goal.overflow_cast-result
overflow_cast-result c = omega (
  arith,
  c.ranges,
  within-budget _ _ c.args.table.now c.args.working.now c.count_apart-steps.ensures c.expr_count-exprs.ensures
      refl refl (accepts_only _ (sym c.in_default.is ∙ c.end_of.ensures)),
)

pub returns : goal.returns
unfolding written
returns c = ended-done _ _ c.args.table.now c.args.working.now c.count_apart-steps.ensures c.expr_count-exprs.ensures
    refl refl (accepts_only _ (sym c.in_default.is ∙ c.end_of.ensures)) _ refl
    (answered c.args.image.bytes.now c.args.table.now (ap (λ k. 2 * k) c.expr_count-exprs.ensures)
    c.clear_first.ensures _ c.trace-events.ensures.table_after c.settle.ensures)
    c.clear-2.ensures (c.settle.auto.working ∙ c.trace-events.auto.working)
