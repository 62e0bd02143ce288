use Rattle.tree_findings.specs.Findings.{OfTeam}
use Rattle.tree_findings.specs.Listed.{Adds, OfFirst}
use Rattle.tree_findings.proofs.demand.add_teams.Given as goal

abbrev pub invariant-loop-name : goal.invariant-loop-name
invariant-loop-name l = Adds (OfFirst (OfTeam l.own l.groups) l.name) l.fn.found l.found
