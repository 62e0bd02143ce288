use Rattle.tree_findings.specs.Findings.{OfIdleRule}
use Rattle.tree_findings.specs.Listed.{Adds, OfFirst}
use Rattle.tree_findings.proofs.idle.add_rules.Given as goal

abbrev pub invariant-loop-place : goal.invariant-loop-place
invariant-loop-place l = Adds (OfFirst (OfIdleRule l.shifts.own.now l.shifts.day.now) l.place) l.fn.found l.found
