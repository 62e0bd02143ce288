use Rattle.std.proofs.Common.{◌≡◌, ◌≤◌, ◌+◌, ◌*◌, drop}
use Rattle.model_rosters.specs.declared.instance.Cell.{Cell}
use Rattle.model_rosters.specs.Coverage.{covered, overstaffing}
use Rattle.model_rosters.specs.Folds.{sum_n}
use Rattle.check_certificates.specs.RosterCauses.{duties}
use Rattle.check_parts.proofs.roster_part.ShiftCounts.{rest_cells}
use Rattle.check_values.proofs.remaining_day.cells.overstaffing_costs.Given as goal

abbrev pub invariant-loop-cell : goal.invariant-loop-cell
invariant-loop-cell l = record {
  value : sum_n (λ (c : Cell). c.over * overstaffing c (covered l.grammar c (duties l.shifts))) l.cells
      ≡ l.sum + rest_cells (λ (c : Cell). c.over * overstaffing c (covered l.grammar c (duties l.shifts))) l.cells l.cell-index;
  within : l.sum ≤ 640000 * l.cell-index;
}
