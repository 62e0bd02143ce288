use Rattle.std.proofs.Common.{◌≡◌, ◌++◌}
use Rattle.model_rosters.specs.Demands.{demand_cells}
use Rattle.model_made_days.specs.Draws.{after}
use Rattle.model_made_days.specs.Made.{drawn}
use Rattle.model_made_days.proofs.made.add_demand.Given as goal

abbrev pub invariant-loop-before : goal.invariant-loop-before
invariant-loop-before l =
    (l.cells ≡ l.initial.cells ++ demand_cells (drawn l.initial.generator 0 l.limit l.code l.under l.before))
    × (l.generator ≡ after l.initial.generator l.before)
