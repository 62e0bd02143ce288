use Rattle.std.proofs.Common.{◌≡◌, ◌*◌, ◌^◌, pos, ◌≤ℤ◌}
use Rattle.law_bounds.specs.linear_programs.Sums.{dot}
use Rattle.lp_fractions.specs.Row.{at}
use Rattle.lp_tableaus.proofs.first.value_of.Given as goal

abbrev pub invariant-loop-row : goal.invariant-loop-row
invariant-loop-row l = record {
  value : l.value ≡ dot l.row (at l.costs) (at l.right);
  low : pos 0 ≤ℤ l.value;
  high : l.value ≤ℤ pos (l.row * 2 ^ 95);
}
