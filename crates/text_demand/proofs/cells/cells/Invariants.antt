use Rattle.std.proofs.Common.{◌≡◌, take, map}
use Rattle.model_rosters.specs.Demands.{all_cells}
use Rattle.text_demand.specs.InstanceOf.{demand_of}
use Rattle.text_demand.proofs.cells.cells.Given as goal

abbrev pub invariant-loop-need : goal.invariant-loop-need
invariant-loop-need l = l.cells ≡ all_cells (map (demand_of l.least l.most) (take l.need-index l.needs))
