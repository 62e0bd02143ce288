use Rattle.tree_findings.specs.Findings.{OfRule}
use Rattle.tree_findings.specs.Listed.{Adds, OfFirst}
use Rattle.tree_findings.proofs.rules.add_rules.Given as goal

abbrev pub invariant-loop-place : goal.invariant-loop-place
invariant-loop-place l = Adds (OfFirst (OfRule l.grammar) l.place) l.fn.found l.found
