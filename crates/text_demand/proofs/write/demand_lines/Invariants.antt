use Rattle.std.proofs.Common.{◌≡◌, ◌++◌, List, length}
use Rattle.text_lines.specs.Written.{written}
use Rattle.model_rosters.specs.Demands.{Demand, IsDemand, all_cells}
use Rattle.model_rosters.specs.Folds.{Each}
use Rattle.text_demand.specs.Written.{demand_lines}
use Rattle.text_demand.proofs.write.demand_lines.Given as goal

-- whatever demands make the cells, the lines of some of them are still to be written
abbrev pub invariant-loop-rest : goal.invariant-loop-rest
invariant-loop-rest l =
    (ds : List Demand) → Each (IsDemand l.grammar) ds → l.fn.cells ≡ all_cells ds
    → (es : List Demand) × Each (IsDemand l.grammar) es × (l.rest ≡ all_cells es)
    × (l.out ++ written (demand_lines l.grammar.codes es) ≡ l.fn.out ++ written (demand_lines l.grammar.codes ds))

abbrev pub decreases-loop-rest : goal.decreases-loop-rest
decreases-loop-rest l = length l.rest
