use Rattle.std.proofs.Common.{◌<◌, get_or, length, refl, arith, ap}
use Rattle.model_rosters.specs.declared.instance.Cell.{Cell}
use Rattle.check_parts.proofs.priced_part.ListSearch.{In-get_or}
use Rattle.check_parts.proofs.priced_part.infeasible.has_unmeetable_cell.Goals as goal

abbrev no_cell : Cell
no_cell = record { code = 0; period = 0; need = 0; under = 0; over = 0; floor = 0; ceiling = 0 }

pub returns-then-is_unmeetable : goal.returns-then-is_unmeetable
returns-then-is_unmeetable c =
    let k = c.loop-cell.cell-index in
    let cells = c.args.instance.now.cells in
    let there : k < length cells = omega (arith, ap length c.as_slice-cell-items.ensures, c.loop-cell-test.true) in
    let shut = rw c.as_slice-cell-items.ensures at (c.is_unmeetable.ensures.0 c.if-is_unmeetable.true) in (
      λ t. (get_or cells k no_cell, record { cell = In-get_or cells k no_cell there; none = shut }),
      λ h. refl,
    )
