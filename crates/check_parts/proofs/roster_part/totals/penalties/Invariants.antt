use Rattle.std.proofs.Common.{◌≡◌, ◌≤◌, ◌+◌, ◌*◌}
use Rattle.model_rosters.specs.declared.instance.Cell.{Cell}
use Rattle.model_rosters.specs.Coverage.{covered, penalty}
use Rattle.model_rosters.specs.Folds.{sum_n}
use Rattle.check_certificates.specs.RosterCauses.{duties}
use Rattle.check_parts.specs.roster_part.Counters.{IsCounterFor}
use Rattle.check_parts.proofs.roster_part.ShiftCounts.{rest_cells}
use Rattle.check_parts.proofs.roster_part.totals.penalties.Given as goal

abbrev pub invariant-loop-cell : goal.invariant-loop-cell
invariant-loop-cell l = record {
  value : sum_n (λ (c : Cell). penalty c (covered l.grammar c (duties l.shifts))) l.cells
      ≡ l.sum + rest_cells (λ (c : Cell). penalty c (covered l.grammar c (duties l.shifts))) l.cells l.cell-index;
  within : l.sum ≤ 1280000 * l.cell-index;
  counter : IsCounterFor l.grammar (duties l.shifts) l.counter;
}
