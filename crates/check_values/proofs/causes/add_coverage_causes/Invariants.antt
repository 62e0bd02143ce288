use Rattle.std.proofs.Common.{◌≡◌, ◌++◌, take}
use Rattle.check_certificates.specs.RosterCauses.{duties}
use Rattle.check_values.specs.Causes.{gathered, cell_causes}
use Rattle.check_values.proofs.causes.add_coverage_causes.Given as goal

abbrev pub invariant-loop-cell : goal.invariant-loop-cell
invariant-loop-cell l = l.out ≡ l.fn.out ++ gathered (cell_causes l.grammar (duties l.shifts)) (take l.cell-index l.cells)
