use Rattle.std.proofs.Common.{◌≡◌, ◌+◌, ◌*◌, ◌≤◌, drop}
use Rattle.std.specs.Prelude.{◌↔◌}
use Rattle.model_rosters.specs.declared.instance.Cell.{Cell}
use Rattle.model_rosters.specs.Coverage.{penalty, IsWithinCell}
use Rattle.model_rosters.specs.Folds.{sum_n, Each}
use Rattle.check_parts.specs.pinned_part.Net.{cell_size}
use Rattle.check_parts.proofs.pinned_part.penalties.penalties.Given as goal

abbrev pub invariant-loop-cell : goal.invariant-loop-cell
invariant-loop-cell l = record {
  value : sum_n (λ (c : Cell). penalty c (cell_size l.grammar l.nodes c)) l.cells
      ≡ l.sum + sum_n (λ (c : Cell). penalty c (cell_size l.grammar l.nodes c)) (drop l.cell-index l.cells);
  inside : Each (λ (c : Cell). IsWithinCell c (cell_size l.grammar l.nodes c)) l.cells
      ↔ Each (λ (c : Cell). IsWithinCell c (cell_size l.grammar l.nodes c)) (drop l.cell-index l.cells);
  within : l.sum ≤ 640000 * l.cell-index;
}
