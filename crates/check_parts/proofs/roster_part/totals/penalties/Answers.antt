use Rattle.std.proofs.Common.{get_or, ap, arith}
use Rattle.model_rosters.specs.declared.instance.Cell.{Cell}
use Rattle.model_rosters.specs.Coverage.{covered, penalty}
use Rattle.model_rosters.specs.Limits.{IsDayCell}
use Rattle.model_rosters.proofs.CostBounds.{penalty_le}
use Rattle.check_certificates.specs.RosterCauses.{duties}
use Rattle.check_parts.proofs.roster_part.ShiftCounts.{cells-next}
use Rattle.check_parts.proofs.roster_part.totals.penalties.Goals as goal

abbrev no_cell : Cell
no_cell = record { code = 0; period = 0; need = 0; under = 0; over = 0; floor = 0; ceiling = 0 }

pub overflow_add-sum : goal.overflow_add-sum
overflow_add-sum c =
    let k = c.loop-cell.cell-index in
    let cell : Cell = get_or c.args.cells.now k no_cell in
    let is : IsDayCell c.args.grammar.now cell = c.requires.cells k no_cell c.loop-cell-test.true in
    let few = penalty_le cell c.coverage.result c.coverage.ensures.within is.limited in
    omega (arith, few, c.penalty-sum.ensures, c.loop-cell.invariant.within, c.loop-cell-test.true, c.requires.few_cells)

pub loop-cell-preserved : goal.loop-cell-preserved
loop-cell-preserved c =
    let k = c.loop-cell.cell-index in
    let cell : Cell = get_or c.args.cells.now k no_cell in
    let is : IsDayCell c.args.grammar.now cell = c.requires.cells k no_cell c.loop-cell-test.true in
    let few = penalty_le cell c.coverage.result c.coverage.ensures.within is.limited in
    let i = c.loop-cell.invariant in
    let next = cells-next (λ (x : Cell). penalty x (covered c.args.grammar.now x (duties c.args.shifts.now))) c.args.cells.now k no_cell c.loop-cell-test.true in
    let same = ap (penalty cell) c.coverage.ensures.value in
    record {
      value = omega (arith, i.value, next, c.penalty-sum.ensures, same);
      within = omega (arith, few, c.penalty-sum.ensures, i.within);
      counter = c.coverage.ensures.counter;
    }
