-- What a dive works on.
use Rattle.std.specs.Prelude.{ℕ, ℤ, ◌≡◌, ◌≤◌, ◌<◌, ◌+◌, List, All, length}
use Rattle.model_rosters.specs.declared.price_room.PriceRoom.{PriceRoom}
use Rattle.model_rosters.specs.PriceRooms.{IsRoomFor}
use Rattle.model_rosters.specs.Room.{RoomView, most_uses}
use Rattle.model_rosters.specs.tree_laws.DaySteps.{AreDaySteps}
use Rattle.tree_short_order.specs.declared.short_order.ShortOrder.{ShortOrder}
use Rattle.tree_short_order.specs.Shorts.{IsShortFor}
use Rattle.tree_pool.specs.Pools.{PoolTree, IsPool, IsGrown}
use Rattle.lp_master_rows.specs.declared.search_day.day.Day.{Day}
use Rattle.lp_master_rows.specs.search_day.Days.{IsDay}
use Rattle.lp_master_rows.specs.search_day.Rooms.{Grows}
use Rattle.lp_master_rows.specs.declared.node_task.task.NodeTask.{NodeTask}
use Rattle.lp_master_rows.specs.node_task.Tasks.{IsTask, row_count}
use Rattle.search_dives.specs.declared.descent.Descent.{Descent}
use Rattle.search_dives.specs.declared.workspace.ArcSums.{ArcSums}
use Rattle.search_dives.specs.declared.workspace.DiveWorkspace.{DiveWorkspace}
use Rattle.search_dives.specs.declared.workspace.Quote.{Quote}
use Rattle.search_dives.specs.declared.program.Program.{Program}

-- each is below n
abbrev pub AreFewer : ℕ → List ℕ → Type 0
AreFewer n columns = All (λ (c : ℕ). c < n) columns

-- the trees that are fixed are among the n trees of a pool
abbrev pub IsProgram : ℕ → Program → Type 0
IsProgram n p = AreFewer n p.fixed

-- one for each cell, for both rows of the heads and for each cut
abbrev pub number_count : NodeTask → ℕ
number_count t = length t.day.instance.now.cells + 2 + length t.cuts.now

-- numbers and room for the prices of the cells and of the cuts
pub record HasRooms (t : NodeTask) (numbers : List ℤ) (room : PriceRoom) : Type 0 where
  pub count : length numbers ≡ number_count t
  pub fits : IsRoomFor room t.day.instance.now
  pub few : length t.cuts.now ≤ room.most

-- and a price for each row of the node's master
pub record IsQuote (t : NodeTask) (q : Quote) : Type 0 where
  pub y : length q.y.items ≡ row_count t
  pub rooms : HasRooms t q.numbers.items q.room

-- as many prices as sums
abbrev pub AreArcSums : ArcSums → Type 0
AreArcSums a = length a.prices.items ≡ length a.sums.items

-- and room for each tree of the day
pub record IsWorkspace (t : NodeTask) (d : DiveWorkspace) : Type 0 where
  pub quote : IsQuote t d.quote
  pub arcs : AreArcSums d.arcs
  pub tree : d.tree.most ≡ most_uses t.day.instance.now.grammar

-- a short order for the graph, and a room for each tree of the day
pub record CanFill (d : Day) (s : ShortOrder) (r : RoomView) : Type 0 where
  pub day : IsDay d
  pub made : IsShortFor d.graph.now s
  pub room : r.most ≡ most_uses d.instance.now.grammar

-- the room holds a tree of the day
abbrev pub HoldsTree : NodeTask → DiveWorkspace → Type 0
HoldsTree t d = AreDaySteps t.day.instance.now.grammar d.tree.steps

-- a short order for the graph, and a workspace of the node
pub record CanAsk (t : NodeTask) (s : ShortOrder) (d : DiveWorkspace) : Type 0 where
  pub task : IsTask t
  pub made : IsShortFor t.day.graph.now s
  pub workspace : IsWorkspace t d

-- and a pool of the day's trees
pub record AreTools (t : NodeTask) (s : ShortOrder) (trees : List PoolTree) (d : DiveWorkspace) : Type 0 where
  pub task : IsTask t
  pub made : IsShortFor t.day.graph.now s
  pub pool : IsPool t.day.instance.now.grammar trees
  pub workspace : IsWorkspace t d

-- they still are, and the old trees of the pool kept their numbers
pub record StayTools (t : NodeTask) (s : ShortOrder) (old new : List PoolTree) (d : DiveWorkspace) : Type 0 where
  pub are : AreTools t s new d
  pub grown : IsGrown old new

-- a short order for the graph, and a pool of the day's trees
pub record MayDive (t : NodeTask) (s : ShortOrder) (trees : List PoolTree) : Type 0 where
  pub task : IsTask t
  pub made : IsShortFor t.day.graph.now s
  pub pool : IsPool t.day.instance.now.grammar trees

-- the short order still is, and the pool has grown
pub record HasDived (t : NodeTask) (s : ShortOrder) (old new : List PoolTree) : Type 0 where
  pub made : IsShortFor t.day.graph.now s
  pub pool : Grows t.day old new

-- a dive that is under way may go on
pub record IsDiving (t : NodeTask) (s : ShortOrder) (trees : List PoolTree) (d : Descent) : Type 0 where
  pub program : IsProgram (length trees) d.program
  pub tools : AreTools t s trees d.workspace

-- of the program nothing changed but its float program
abbrev pub IsRun : Program → Program → Type 0
IsRun old new = new ≡ record old { float_program = new.float_program; is_solved = new.is_solved }

-- a dive that has begun has a program and a workspace
pub record HasBegun (t : NodeTask) (n : ℕ) (d : Descent) : Type 0 where
  pub program : IsProgram n d.program
  pub workspace : IsWorkspace t d.workspace
