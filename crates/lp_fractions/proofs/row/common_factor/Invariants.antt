use Rattle.std.proofs.Common.{◌<◌, ◌^◌}
use Rattle.lp_fractions.specs.Row.{FitsBelow, new_at}
use Rattle.law_bounds.specs.linear_programs.RowStep.{IsCommonFactor}
use Rattle.lp_fractions.proofs.row.common_factor.Given as goal

abbrev pub invariant-loop-j : goal.invariant-loop-j
invariant-loop-j l = record {
  fits : FitsBelow l.fn.p l.row l.fn.a l.other l.j;
  factor : IsCommonFactor (new_at l.fn.p l.row l.fn.a l.other) l.j l.factor;
  bound : l.factor < 2 ^ 127;
}
