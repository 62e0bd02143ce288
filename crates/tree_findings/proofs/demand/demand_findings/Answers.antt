use Rattle.tree_findings.specs.Findings.{IsDemandFinding}
use Rattle.tree_findings.proofs.ListedLemmas.{found-all}
use Rattle.tree_findings.proofs.demand.demand_findings.Goals as goal

pub returns-in-Ok : goal.returns-in-Ok
returns-in-Ok c = found-all (IsDemandFinding c.args.shifts.now.own.now c.args.shifts.now.day.now c.args.groups.now c.args.cells.now) c.new-found.result c.add_demand.new.found c.new-found.ensures c.in-Ok.ensures
