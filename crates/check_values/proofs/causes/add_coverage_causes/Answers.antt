use Rattle.std.proofs.Common.{get_or}
use Rattle.std.proofs.lemmas.Option.{slice_get-get_or}
use Rattle.model_rosters.specs.declared.instance.Cell.{Cell}
use Rattle.check_certificates.specs.RosterCauses.{duties}
use Rattle.check_values.specs.Causes.{cell_causes}
use Rattle.check_values.proofs.CauseLists.{gathered-next}
use Rattle.check_values.proofs.causes.add_coverage_causes.Goals as goal

abbrev no_cell : Cell
no_cell = record { code = 0; period = 0; need = 0; under = 0; over = 0; floor = 0; ceiling = 0 }

pub loop-cell-preserved : goal.loop-cell-preserved
loop-cell-preserved c =
    let k = c.loop-cell.cell-index in
    gathered-next (cell_causes c.args.grammar.now (duties c.args.shifts.now)) c.args.cells.now k (get_or c.args.cells.now k no_cell) c.args.out.now c.loop-cell.out c.add_cell_causes.new.out
    (slice_get-get_or c.args.cells.now k no_cell c.loop-cell-test.true) c.loop-cell.invariant c.in_ok-add_cell_causes.ensures
