use Rattle.std.proofs.Common.{◌≡◌, ◌++◌, drop}
use Rattle.page_rosters.specs.TotalLines.{total_lines, totals_of}
use Rattle.page_rosters.proofs.totals.totals_of.Given as goal

abbrev pub invariant-loop-code : goal.invariant-loop-code
invariant-loop-code l = record {
  lines : totals_of l.codes l.labels l.shifts l.columns ≡ l.lines ++ total_lines l.codes l.labels l.shifts l.columns l.place (drop l.code-index l.codes);
  place : l.place ≡ l.code-index;
}
