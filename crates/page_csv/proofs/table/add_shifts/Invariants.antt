use Rattle.std.proofs.Common.{◌≡◌, ◌++◌, drop}
use Rattle.page_csv.specs.Rows.{rows_from}
use Rattle.page_csv.proofs.table.add_shifts.Given as goal

abbrev pub invariant-loop-shift : goal.invariant-loop-shift
invariant-loop-shift l = record {
  rows : l.fn.out ++ rows_from l.instance l.labels 0 l.shifts ≡ l.out ++ rows_from l.instance l.labels l.place (drop l.shift-index l.shifts);
  place : l.place ≡ l.shift-index;
}
