use Rattle.std.proofs.Common.{◌≡◌, ◌≤◌, ◌*◌, drop}
use Rattle.model_shift_figures.specs.Totals.{code_total}
use Rattle.model_shift_figures.proofs.total.code_total.Given as goal

abbrev pub invariant-loop-shift : goal.invariant-loop-shift
invariant-loop-shift l = record {
  sum : code_total l.byte l.shifts 0 ≡ code_total l.byte (drop l.shift-index l.shifts) l.sum;
  small : l.sum ≤ 96 * l.shift-index;
}
