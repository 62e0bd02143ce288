use Rattle.std.proofs.Common.{◌≡◌, ◌++◌, take}
use Rattle.model_rosters.specs.Demands.{cells_from}
use Rattle.text_demand.specs.InstanceOf.{periods_from, demand_of}
use Rattle.text_demand.proofs.cells.push_cells.Given as goal

abbrev pub invariant-loop-place : goal.invariant-loop-place
invariant-loop-place l =
    l.cells ≡ l.fn.cells ++ cells_from (demand_of l.least l.most l.need) 1 (periods_from l.least l.most l.need.code 0 (take l.place l.need.counts))
