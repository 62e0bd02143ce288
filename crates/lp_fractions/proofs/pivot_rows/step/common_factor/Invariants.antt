use Rattle.std.proofs.Common.{◌≤◌, ◌^◌}
use Rattle.law_bounds.specs.linear_programs.RowStep.{IsCommonFactor}
use Rattle.lp_fractions.specs.pivot_rows.Quotients.{whole}
use Rattle.lp_fractions.proofs.pivot_rows.step.common_factor.Given as goal

abbrev pub invariant-loop-place : goal.invariant-loop-place
invariant-loop-place l = record {
  value : IsCommonFactor (whole l.row l.fn.factor l.other l.fn.entry) l.place l.common;
  size : l.common ≤ 2 ^ 125;
}
