use Prim.Native.Nat.{◌*◌}
use mathlib.Core.Path.{sym}
use native.Mathlib.Omega.{arith}
use lib.ListN.{take}
use lib.Seq.{length-take-le}
use Rattle.walk.specs.Outcome.{lent}
use Rattle.survey.proofs.SurveyLaws.{counted}
use Rattle.survey.proofs.WalkTextLaws.{Lending, index-own, edges_fit, narrowings_fit, walk_refused_lem, walk-done}
use Rattle.survey.proofs.report.walk_lines.Goals as goal
use Rattle.survey.proofs.report.walk_lines.Goals.{After-name_dependencies}

known : (c : After-name_dependencies)
    → Lending c.args.image.bytes.now c.args.resolutions.now (take (2 * c.name_count-names.result) c.compute_module_indices.new.table)
    (lent c.buffer-edges.result c.buffer-narrowings.result c.buffer-exprs.result c.buffer-working.result)
known c =
    record {
      image = c.requires.0;
      resolutions = c.requires.1;
      bindings =
          counted _ c.name_count-names.ensures
          (index-own _ _ c.requires.0 c.args.image.accepted.sized.names-few c.buffer-bindings.ensures c.compute_module_indices.ensures);
      edges_big = c.buffer-edges.ensures;
      narrowings_big = c.buffer-narrowings.ensures;
      exprs_big = c.buffer-exprs.ensures;
      working_big = c.buffer-working.ensures;
    }

pub overflow_mul-n : goal.overflow_mul-n
overflow_mul-n c = omega (arith, narrowings_fit (known ((goal.at.overflow_mul-n c).After-name_dependencies)) c.name_dependencies.ensures (sym c.in-Ok.is))

pub slice_bounds-edges-end : goal.slice_bounds-edges-end
slice_bounds-edges-end c =
    omega (arith, edges_fit (known ((goal.at.slice_bounds-edges-end c).After-name_dependencies)) c.name_dependencies.ensures (sym c.in-Ok.is), c.name_dependencies.auto.edges, c.buffer-edges.ensures)

pub slice_bounds-walked_lines-end : goal.slice_bounds-walked_lines-end
slice_bounds-walked_lines-end c =
    sym (length-take-le _ _ (omega (arith, edges_fit (known ((goal.at.slice_bounds-walked_lines-end c).After-name_dependencies)) c.name_dependencies.ensures (sym c.in-Ok.is), c.name_dependencies.auto.edges, c.buffer-edges.ensures)))

pub slice_bounds-narrowings-end : goal.slice_bounds-narrowings-end
slice_bounds-narrowings-end c =
    omega (arith, narrowings_fit (known ((goal.at.slice_bounds-narrowings-end c).After-name_dependencies)) c.name_dependencies.ensures (sym c.in-Ok.is), c.name_dependencies.auto.narrowings, c.buffer-narrowings.ensures)

pub slice_bounds-walked_lines-end-in-Ok-2 : goal.slice_bounds-walked_lines-end-in-Ok-2
slice_bounds-walked_lines-end-in-Ok-2 c =
    sym (length-take-le _ _ (omega (arith, narrowings_fit (known ((goal.at.slice_bounds-walked_lines-end-in-Ok-2 c).After-name_dependencies)) c.name_dependencies.ensures (sym c.in-Ok.is), c.name_dependencies.auto.narrowings, c.buffer-narrowings.ensures)))

pub returns-in-Err : goal.returns-in-Err
returns-in-Err c = walk_refused_lem (known ((goal.at.returns-in-Err c).After-name_dependencies)) c.name_dependencies.ensures (sym c.in-Err.is) c.refused_line.ensures

pub returns-in-Ok : goal.returns-in-Ok
returns-in-Ok c = walk-done (known ((goal.at.returns-in-Ok c).After-name_dependencies)) c.name_dependencies.ensures (sym c.in-Ok.is) c.name_count-names.ensures c.walked_lines.ensures
