use Rattle.std.proofs.Common.{◌<◌, min}
use Rattle.model_rosters.specs.declared.instance.Cell.{Cell}
use Rattle.check_parts.proofs.priced_part.ListSearch.{StandsFrom}
use Rattle.check_parts.proofs.priced_part.infeasible.has_unmeetable_cell.Given as goal

abbrev pub invariant-loop-cell : goal.invariant-loop-cell
invariant-loop-cell l = StandsFrom (λ (c : Cell). min c.ceiling l.instance.heads_max < c.floor) l.instance.cells l.cell-index
