-- Trees of the day with the least sum.
use Rattle.std.specs.Prelude.{◌≡◌, IsSome}
use Rattle.model_rosters.specs.declared.grammar.Grammar.{Grammar}
use Rattle.model_rosters.specs.Trees.{Parts, IsDayTree, steps}
use Rattle.model_rosters.specs.Sums.{PriceView, tree_sum, IsLeast}
use Rattle.model_rosters.specs.Room.{RoomView}

-- some tree of the day has a sum
abbrev pub HasDaySum : Grammar → PriceView → Type 0
HasDaySum g p = (t : Parts) × IsDayTree g t × IsSome (tree_sum p 1 t)

-- the room holds the steps of a tree of the day, and no tree of the day has a lesser sum
pub record HoldsLeastTree (g : Grammar) (p : PriceView) (room : RoomView) : Type 0 where
  pub tree : Parts
  pub of_day : IsDayTree g tree
  pub least : IsLeast (IsDayTree g) (tree_sum p 1) (tree_sum p 1 tree)
  pub held : room.steps ≡ steps 1 tree
