-- What listing columns of a node does.
use Rattle.std.specs.Prelude.{ℕ, ℤ, ◌≡◌, ◌≤◌, ◌<ℤ◌, ◌+◌, ◌++◌, pos, Some, List, [], ◌∷◌, length, slice_get, unsigned_abs}
use Rattle.model_rosters.specs.declared.grammar.Step.{Step}
use Rattle.model_rosters.specs.declared.price_room.PriceRoom.{PriceRoom}
use Rattle.model_rosters.specs.Agreement.{Agree}
use Rattle.model_rosters.specs.PriceRooms.{price_view, IsRoomFor}
use Rattle.model_rosters.specs.Room.{RoomView}
use Rattle.model_rosters.specs.Trees.{Parts}
use Rattle.law_bounds.specs.linear_programs.Program.{reduced}
use Rattle.lp_fractions.specs.Row.{at}
use Rattle.law_bounds.specs.master_laws.Rows.{rows_of}
use Rattle.law_bounds.specs.master_laws.Master.{tree, master}
use Rattle.law_bounds.specs.master_laws.Pricing.{row_view}
use Rattle.lp_master_rows.specs.NodeRows.{AreRows}
use Rattle.tree_pool.specs.Pools.{PoolTree, IsPool}
use Rattle.lp_master_rows.specs.declared.node_task.task.NodeTask.{NodeTask}
use Rattle.lp_master_rows.specs.node_task.Tasks.{IsTask, row_count}
use Rattle.search_node_columns.specs.declared.workspace.Kind.TheVariants.{OfTree}
use Rattle.search_node_columns.specs.declared.workspace.Held.{Held}
use Rattle.search_node_columns.specs.Columns.{IsHeld, HasKey, AreTold, HasMissing, HasBeyonds}
use Rattle.search_node_columns.specs.Priced.{AreNarrowPrices, HoldsCheaper, HasNoCheaper}

-- the columns of what is missing in each row are listed alone
abbrev pub AreMissing : NodeTask → List Held → Type 0
AreMissing t held = (trees : List PoolTree) → AreTold t.day.instance.now t.cuts.now trees held
    × HasMissing (length (rows_of t.day.instance.now t.cuts.now)) held

-- the columns of what is beyond in the rows are listed too
abbrev pub HaveBeyonds : NodeTask → List Held → List Held → Type 0
HaveBeyonds t old new = (trees : List PoolTree) → AreTold t.day.instance.now t.cuts.now trees old
    → AreTold t.day.instance.now t.cuts.now trees new
    × HasBeyonds t.day.instance.now t.cuts.now (length (rows_of t.day.instance.now t.cuts.now)) new

-- of rows that are the node's, and a pool of the day, the column is one
abbrev pub IsTreeColumn : NodeTask → List PoolTree → Held → Type 0
IsTreeColumn t trees h = AreRows t.day.instance.now t.cuts.now t.rows.now
    → IsPool t.day.instance.now.grammar trees → IsHeld t.day.instance.now t.cuts.now trees h

-- of rows that are the node's, and a pool of the day, listed columns that were ones still are
abbrev pub StayTold : NodeTask → List PoolTree → List Held → List Held → Type 0
StayTold t trees old new = AreRows t.day.instance.now t.cuts.now t.rows.now
    → IsPool t.day.instance.now.grammar trees → AreTold t.day.instance.now t.cuts.now trees old
    → AreTold t.day.instance.now t.cuts.now trees new

-- one column more is listed, that of the pool's tree with these steps
abbrev pub ListsTree : NodeTask → List PoolTree → List Step → List Held → List Held → ℕ → Type 0
ListsTree t trees steps old new column = (h : Held) × (n : ℕ) × (x : PoolTree) × (new ≡ old ++ h ∷ [])
    × (column ≡ length old) × IsHeld t.day.instance.now t.cuts.now trees h × (h.kind ≡ OfTree n)
    × (slice_get trees n ≡ Some x) × (x.steps ≡ steps)

-- the column is one of a tree, whose reduced cost is negative
abbrev pub IsCheaperTree : NodeTask → List ℤ → ℤ → List PoolTree → List Held → ℕ → Type 0
IsCheaperTree t y kappa trees held column = (parts : Parts)
    × HasKey t.day.instance.now.grammar trees held column (tree parts)
    × (reduced (master t.day.instance.now t.cuts.now).rows (at y) kappa
    ((master t.day.instance.now t.cuts.now).column (tree parts)) <ℤ pos 0)

-- narrow prices of the rows of a node
pub record ArePrices (t : NodeTask) (y : List ℤ) (kappa : ℤ) : Type 0 where
  pub task : IsTask t
  pub count : length y ≡ row_count t
  pub narrow : AreNarrowPrices y kappa

-- numbers and room for the prices of the rows by cells and cuts
pub record HasRooms (t : NodeTask) (numbers : List ℤ) (prices : PriceRoom) : Type 0 where
  pub count : length numbers ≡ length t.day.instance.now.cells + 2 + length t.cuts.now
  pub room : IsRoomFor prices t.day.instance.now
  pub few : length t.cuts.now ≤ prices.most

-- the room has the prices under which the sum of a tree is its reduced cost and the prices of the rows of the
-- heads
abbrev pub HasPrices : NodeTask → List ℤ → ℤ → PriceRoom → Type 0
HasPrices t y kappa room = Agree t.day.instance.now.grammar (price_view room)
    (row_view t.day.instance.now t.cuts.now (at y) (unsigned_abs kappa))

-- the room holds a tree of the day that has a negative reduced cost
abbrev pub FindsCheaper : NodeTask → List ℤ → ℤ → RoomView → Type 0
FindsCheaper t y kappa room = HoldsCheaper t.day.instance.now t.cuts.now y kappa room

-- there is no such tree
abbrev pub FindsNone : NodeTask → List ℤ → ℤ → Type 0
FindsNone t y kappa = HasNoCheaper t.day.instance.now t.cuts.now y kappa
