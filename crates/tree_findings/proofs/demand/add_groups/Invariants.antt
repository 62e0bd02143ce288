use Rattle.tree_findings.specs.Findings.{OfGroup}
use Rattle.tree_findings.specs.Listed.{Adds, OfFirst}
use Rattle.tree_findings.proofs.demand.add_groups.Given as goal

abbrev pub invariant-loop-place : goal.invariant-loop-place
invariant-loop-place l = Adds (OfFirst (OfGroup l.shifts.own.now l.shifts.day.now l.groups) l.place) l.fn.found l.found
