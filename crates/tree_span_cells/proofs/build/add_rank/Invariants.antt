use Rattle.std.proofs.Common.{ℕ, List, ◌+◌}
use Rattle.tree_span_cells.specs.declared.slot.Slot.{Slot}
use Rattle.tree_span_cells.specs.Building.{NameSlots}
use Rattle.tree_span_cells.proofs.build.add_rank.Given as goal
use Rattle.model_rosters.specs.tree_laws.RankOrder.{IsPlaced}

abbrev pub invariant-loop-name : goal.invariant-loop-name
invariant-loop-name l = (base : List Slot) (m : ℕ) → NameSlots l.ranks base l.initial.slots l.initial.names (IsPlaced l.ranks l.rank 0) m
    → NameSlots l.ranks base l.slots l.names (IsPlaced l.ranks l.rank l.name) (m + l.name)
