use mathlib.Core.Path.{sym}
use native.Mathlib.Omega.{arith}
use Rattle.survey.proofs.SurveyLaws.{resolve-refused, resolve-image, resolve-accepted, resolve-steps, resolve-table, resolve-done}
use Rattle.survey.proofs.report.survey_lines.Goals as goal

pub invariant_of-resolved_lines : goal.invariant_of-resolved_lines
invariant_of-resolved_lines c = record {
  accepted = resolve-accepted _ _ _ c.buffer-table.ensures c.buffer-working.ensures c.compute_name_resolution.ensures (sym c.in-Ok.is);
}

pub resolved_lines-requires : goal.resolved_lines-requires
resolved_lines-requires c =
    let h = sym c.in-Ok.is in
    let a = resolve-accepted _ _ _ c.buffer-table.ensures c.buffer-working.ensures c.compute_name_resolution.ensures h in (
      resolve-image _ _ _ c.buffer-table.ensures c.buffer-working.ensures c.compute_name_resolution.ensures h,
      resolve-steps _ _ _ c.buffer-table.ensures c.buffer-working.ensures c.compute_name_resolution.ensures h,
      omega (arith, a.sized.exprs-few, c.compute_name_resolution.auto.table, c.buffer-table.ensures),
      resolve-table _ _ _ c.buffer-table.ensures c.buffer-working.ensures c.compute_name_resolution.ensures h,
    )

pub returns-in-Err : goal.returns-in-Err
returns-in-Err c =
    resolve-refused _ _ _ c.buffer-table.ensures c.buffer-working.ensures c.compute_name_resolution.ensures (sym c.in-Err.is) c.refused_line.ensures

pub returns-in-Ok : goal.returns-in-Ok
returns-in-Ok c =
    resolve-done _ _ _ c.buffer-table.ensures c.buffer-working.ensures c.compute_name_resolution.ensures (sym c.in-Ok.is) c.resolved_lines.ensures
