use Rattle.tree_findings.specs.Findings.{OfCell}
use Rattle.tree_findings.specs.Listed.{Adds, OfFirst}
use Rattle.tree_findings.proofs.demand.add_cells.Given as goal

abbrev pub invariant-loop-place : goal.invariant-loop-place
invariant-loop-place l = Adds (OfFirst (OfCell l.shifts.own.now l.shifts.day.now l.cells) l.place) l.fn.found l.found
