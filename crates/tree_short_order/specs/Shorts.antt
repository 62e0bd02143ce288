-- Orders of some arcs of a graph, and the trees that they hold.
use Rattle.std.specs.Prelude.{ℕ, ◌≡◌, IsSome}
use Rattle.model_rosters.specs.declared.grammar.ArcKey.{ArcKey}
use Rattle.model_rosters.specs.declared.grammar.Grammar.{Grammar}
use Rattle.model_rosters.specs.Trees.{Parts, steps}
use Rattle.model_rosters.specs.Room.{RoomView, most_uses}
use Rattle.model_rosters.specs.Sound.{IsSound}
use Rattle.tree_graph.specs.Graphs.{GraphView, IsGraph}
use Rattle.tree_cheapest.specs.Under.{IsTop, IsDayTreeUnder}
use Rattle.tree_short_order.specs.Best.{AreBest}
use Rattle.tree_short_order.specs.declared.short_order.ShortOrder.{ShortOrder}

-- the short order was made for the graph: the best arc of each node makes it
pub record IsShortFor (v : GraphView) (s : ShortOrder) : Type 0 where
  pub best : AreBest v s.best.items

-- the day has a tree
abbrev pub HasRoot : GraphView → Type 0
HasRoot v = IsSome v.root

-- what is asked for a tree of the day: the grammar's graph, that the day has a tree, and room
pub record AsksDayTree (g : Grammar) (v : GraphView) (room : RoomView) : Type 0 where
  pub sound : IsSound g
  pub graph : IsGraph g v
  pub some : HasRoot v
  pub space : room.most ≡ most_uses g

-- what is asked for a tree of the day with the arc at the top: it makes the root, and room
pub record AsksDayTreeUnder (g : Grammar) (v : GraphView) (arc : ℕ) (a : ArcKey)
    (room : RoomView) : Type 0 where
  pub sound : IsSound g
  pub graph : IsGraph g v
  pub top : IsTop g v arc a
  pub space : room.most ≡ most_uses g

-- the room holds the steps of a tree of the day with the arc at the top
pub record HoldsTreeUnder (g : Grammar) (a : ArcKey) (room : RoomView) : Type 0 where
  pub tree : Parts
  pub of_day : IsDayTreeUnder g a tree
  pub held : room.steps ≡ steps 1 tree
