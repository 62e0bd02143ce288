use Rattle.std.proofs.Common.{◌≡◌, ◌<◌, ℕ, pos, get_or}
use Rattle.lp_fractions.specs.Row.{at}
use Rattle.lp_master_rows.specs.NodeRows.{prices_from}
use Rattle.lp_master_rows.proofs.rows.NodeRows.gather_cells.Given as goal

abbrev pub invariant-loop-cell : goal.invariant-loop-cell
invariant-loop-cell l = (k : ℕ) → k < l.cell → get_or l.out k (pos 0) ≡ get_or (prices_from (at l.y) 0 l.self.bounds) k (pos 0)
