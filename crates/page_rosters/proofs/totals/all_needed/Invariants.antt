use Rattle.std.proofs.Common.{◌≡◌, ◌≤◌, ◌*◌, ◌^◌, drop}
use Rattle.page_rosters.specs.TotalLines.{all_needed}
use Rattle.page_rosters.proofs.totals.all_needed.Given as goal

abbrev pub invariant-loop-column : goal.invariant-loop-column
invariant-loop-column l = record {
  sum : all_needed l.columns 0 ≡ all_needed (drop l.column-index l.columns) l.sum;
  small : l.sum ≤ 2 ^ 32 * l.column-index;
}
