use Rattle.tree_findings.specs.Findings.{OfIdleCode}
use Rattle.tree_findings.specs.Listed.{Adds, OfFirst}
use Rattle.tree_findings.proofs.idle.add_codes.Given as goal

abbrev pub invariant-loop-code : goal.invariant-loop-code
invariant-loop-code l = Adds (OfFirst (OfIdleCode l.shifts.own.now l.shifts.day.now) l.code) l.fn.found l.found
