use Rattle.model_rosters.specs.declared.instance.Cell.{Cell}
use Rattle.model_rosters.specs.Coverage.{covered, IsWithinCell}
use Rattle.check_certificates.specs.RosterCauses.{duties}
use Rattle.check_parts.specs.roster_part.Counters.{IsCounterFor}
use Rattle.check_parts.proofs.roster_part.Items.{Before}
use Rattle.check_parts.proofs.roster_part.coverage.coverage_fault.Given as goal

abbrev pub invariant-loop-cell : goal.invariant-loop-cell
invariant-loop-cell l = record {
  before : Before (λ (c : Cell). IsWithinCell c (covered l.instance.grammar c (duties l.shifts))) l.instance.cells l.cell-index;
  counter : IsCounterFor l.instance.grammar (duties l.shifts) l.counter;
}
