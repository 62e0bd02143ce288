use Rattle.std.proofs.Common.{List, ◌*◌}
use Rattle.tree_span_cells.specs.declared.slot.Slot.{Slot}
use Rattle.tree_span_cells.specs.Building.{NameSlots}
use Rattle.tree_span_cells.proofs.build.add_ranks.Given as goal
use Rattle.model_rosters.specs.tree_laws.RankOrder.{IsDone}

abbrev pub invariant-loop-turn : goal.invariant-loop-turn
invariant-loop-turn l = (base : List Slot) → NameSlots l.ranks base l.initial.slots l.initial.names (IsDone l.ranks l.count 0) 0
    → NameSlots l.ranks base l.slots l.names (IsDone l.ranks l.count l.turn) (l.turn * l.count)
