use Rattle.std.proofs.Common.{◌↔◌, length}
use Rattle.model_rosters.specs.Demands.{AreCells}
use Rattle.model_rosters.proofs.demands.are_cells.Given as goal

abbrev pub decreases-loop-rest : goal.decreases-loop-rest
decreases-loop-rest l = length l.rest

abbrev pub invariant-loop-rest : goal.invariant-loop-rest
invariant-loop-rest l = AreCells l.grammar l.cells ↔ AreCells l.grammar l.rest
