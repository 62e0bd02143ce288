use Rattle.model_rosters.proofs.SoundCells.{cells_of_day}
use Rattle.model_rosters.specs.Teams.{teams}
use Rattle.check_certificates.specs.RosterCauses.{duties}
use Rattle.check_values.specs.Causes.{gathered, shift_causes, team_causes, cell_causes}
use Rattle.check_values.proofs.CauseLists.{whole}
use Rattle.check_values.proofs.causes.causes_of.Goals as goal

pub add_coverage_causes-requires-clause-cells : goal.add_coverage_causes-requires-clause-cells
add_coverage_causes-requires-clause-cells c = rw c.as_slice-cells.ensures (cells_of_day c.args.instance.now.grammar c.args.instance.now.cells c.requires.sound.cells)

pub returns : goal.returns
returns c =
    let i = c.args.instance.now in
    let ds = duties c.args.shifts.now in
    whole c.new-causes.result c.add_shift_causes.new.out c.add_heads_causes.new.out c.add_coverage_causes.new.out
    (shift_causes 1 c.args.found.now) (gathered (team_causes ds) (teams i)) (gathered (cell_causes i.grammar ds) i.cells)
    c.new-causes.ensures c.in_ok-add_shift_causes.ensures c.in_ok-add_heads_causes.ensures (rw c.as_slice-cells.ensures at c.in_ok-add_coverage_causes.ensures)
