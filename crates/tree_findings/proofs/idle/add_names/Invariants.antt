use Rattle.tree_findings.specs.Findings.{OfIdleName}
use Rattle.tree_findings.specs.Listed.{Adds, OfFirst}
use Rattle.tree_findings.proofs.idle.add_names.Given as goal

abbrev pub invariant-loop-name : goal.invariant-loop-name
invariant-loop-name l = Adds (OfFirst (OfIdleName l.shifts.own.now l.shifts.day.now) l.name) l.fn.found l.found
