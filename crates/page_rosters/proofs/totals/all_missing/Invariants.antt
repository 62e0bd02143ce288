use Rattle.std.proofs.Common.{◌≡◌, ◌≤◌, ◌*◌, ◌^◌, drop}
use Rattle.page_rosters.specs.TotalLines.{all_missing}
use Rattle.page_rosters.proofs.totals.all_missing.Given as goal

abbrev pub invariant-loop-column : goal.invariant-loop-column
invariant-loop-column l = record {
  sum : all_missing l.columns 0 ≡ all_missing (drop l.column-index l.columns) l.sum;
  small : l.sum ≤ 2 ^ 32 * l.column-index;
}
