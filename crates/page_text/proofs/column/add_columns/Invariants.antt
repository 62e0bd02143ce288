use Rattle.std.proofs.Common.{◌≡◌, ◌++◌, map, take}
use Rattle.model_rosters.specs.Duties.{duty}
use Rattle.page_text.specs.Columns.{column_of}
use Rattle.page_text.proofs.column.add_columns.Given as goal

abbrev pub invariant-loop-cell : goal.invariant-loop-cell
invariant-loop-cell l = l.out ≡ l.fn.out ++ map (column_of l.grammar (map duty l.shifts)) (take l.cell-index l.cells)
