use Rattle.std.proofs.Common.{◌≡◌, ◌++◌, map, take}
use Rattle.check_certificates.specs.RosterCauses.{duties}
use Rattle.text_reports.specs.Reports.{cell_cover}
use Rattle.text_reports.proofs.cover.add_covers.Given as goal

abbrev pub invariant-loop-cell : goal.invariant-loop-cell
invariant-loop-cell l = l.out ≡ l.fn.out ++ map (cell_cover l.grammar (duties l.shifts)) (take l.cell-index l.cells)
