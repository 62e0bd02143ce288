use Rattle.std.proofs.Common.{◌⊎◌, length}
use Rattle.std.proofs.lemmas.Result.{on_ok_weaker}
use Rattle.tree_findings.specs.declared.finding.Finding.{Finding}
use Rattle.tree_findings.specs.Findings.{OfGroup, OfTeam, OfCell}
use Rattle.tree_findings.specs.Listed.{OfFirst}
use Rattle.tree_findings.proofs.ListedLemmas.{adds-then}
use Rattle.tree_findings.proofs.demand.add_demand.Goals as goal

pub returns : goal.returns
returns c =
    let own = c.args.shifts.now.own.now in
    let day = c.args.shifts.now.day.now in
    let groups = c.args.groups.now in
    let cells = c.args.cells.now in
    let g = OfFirst (OfGroup own day groups) (length groups) in
    let t = OfFirst (OfTeam own groups) (length own.names) in
    let k = OfFirst (OfCell own day cells) (length cells) in
    let old = c.args.found.now in
    on_ok_weaker c.add_cells.result
    (λ h. adds-then (λ (f : Finding). g f ⊎ t f) k old c.add_teams.new.found c.add_cells.new.found
    (adds-then g t old c.add_groups.new.found c.add_teams.new.found c.in_ok-add_groups.ensures c.in_ok-add_teams.ensures) h)
    c.add_cells.ensures
