use Rattle.tree_findings.specs.Findings.{IsUseFinding}
use Rattle.tree_findings.proofs.ListedLemmas.{found-all}
use Rattle.tree_findings.proofs.idle.use_findings.Goals as goal

pub returns-in-Ok : goal.returns-in-Ok
returns-in-Ok c = found-all (IsUseFinding c.args.shifts.now.own.now c.args.shifts.now.day.now) c.new-found.result c.add_idle.new.found c.new-found.ensures c.in-Ok.ensures
