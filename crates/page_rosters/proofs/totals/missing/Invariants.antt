use Rattle.std.proofs.Common.{◌≡◌, ◌≤◌, ◌*◌, ◌^◌, drop}
use Rattle.page_rosters.specs.TotalLines.{missing}
use Rattle.page_rosters.proofs.totals.missing.Given as goal

abbrev pub invariant-loop-column : goal.invariant-loop-column
invariant-loop-column l = record {
  sum : missing l.code l.columns 0 ≡ missing l.code (drop l.column-index l.columns) l.sum;
  small : l.sum ≤ 2 ^ 32 * l.column-index;
}
