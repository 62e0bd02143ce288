-- The listed columns of a node's master.
use Rattle.std.specs.Prelude.{ℕ, ◌≡◌, ◌≤◌, ◌<◌, ◌+◌, ◌++◌, Some, Bool, List, [], All, length, slice_get}
use Rattle.std.specs.Borrow.{GName}
use Rattle.model_rosters.specs.declared.grammar.Grammar.{Grammar}
use Rattle.model_rosters.specs.declared.instance.Cut.{Cut}
use Rattle.model_rosters.specs.declared.instance.Instance.{Instance}
use Rattle.model_rosters.specs.Folds.{Each}
use Rattle.model_rosters.specs.PriceRooms.{IsRoomFor}
use Rattle.model_rosters.specs.Room.{most_uses}
use Rattle.model_rosters.specs.SoundInstance.{IsSoundInstance}
use Rattle.model_rosters.specs.Trees.{Parts}
use Rattle.law_bounds.specs.linear_programs.Program.{Program}
use Rattle.tree_graph.specs.Graphs.{GraphView, IsGraph}
use Rattle.tree_cheapest.specs.Pricers.{PricerView, IsMadeFor}
use Rattle.law_bounds.specs.master_laws.Rows.{rows_of, HoldsAt}
use Rattle.law_bounds.specs.master_laws.Master.{MasterKey, missing, beyond, tree, HasBeyond, master}
use Rattle.lp_master_rows.specs.declared.rows.NodeRows.{NodeRows}
use Rattle.lp_master_rows.specs.NodeRows.{AreRows}
use Rattle.lp_fractions.specs.pivot_rows.Columns.{IsColumn}
use Rattle.tree_pool.specs.Pools.{PoolTree, IsPool, IsGrown, IsPoolTree}
use Rattle.search_node_columns.specs.declared.workspace.Kind.{Kind}
use Rattle.search_node_columns.specs.declared.workspace.Kind.TheVariants.{Missing, Beyond, OfTree}
use Rattle.search_node_columns.specs.declared.workspace.Held.{Held}
use Rattle.search_node_columns.specs.declared.workspace.ColumnWorkspace.{ColumnWorkspace}
use Rattle.model_rosters.specs.Limits.{IsSmallCut}

-- whose master it is, the names of what is lent, and whether nothing stops what is done
pub record NodeSite : Type 0 where
  pub instance : Instance
  pub cuts : List Cut
  pub pricer : GName
  pub pool : GName
  pub calm : Bool

abbrev pub site_program : NodeSite → Program MasterKey
site_program s = master s.instance s.cuts

-- what is lent, and what is listed
pub record NodeState : Type 0 where
  pub instance : Instance
  pub cuts : List Cut
  pub graph : GraphView
  pub rows : NodeRows
  pub pricer : PricerView
  pub pool : List PoolTree
  pub workspace : ColumnWorkspace

-- the column of a kind has the key
abbrev pub IsKey : Grammar → List PoolTree → Kind → MasterKey → Type 0
IsKey g pool (Missing r) k = k ≡ missing r
IsKey g pool (Beyond r) k = k ≡ beyond r
IsKey g pool (OfTree j) k = (x : PoolTree) × (slice_get pool j ≡ Some x) × (t : Parts) × IsPoolTree g t x
    × (k ≡ tree t)

-- the listed column tells the column of the key
pub record Tells (i : Instance) (cuts : List Cut) (h : Held) (k : MasterKey) : Type 0 where
  pub belongs : (master i cuts).belongs k
  pub places : IsColumn (length (rows_of i cuts)) ((master i cuts).column k).entry h.places
  pub cost : h.cost ≡ ((master i cuts).column k).cost

-- the listed column has a key, and tells the column of each key that it has
pub record IsHeld (i : Instance) (cuts : List Cut) (pool : List PoolTree) (h : Held) : Type 0 where
  pub some : (k : MasterKey) × IsKey i.grammar pool h.kind k
  pub tells : (k : MasterKey) → IsKey i.grammar pool h.kind k → Tells i cuts h k

-- each listed column has a key, and tells the column of each key that it has
abbrev pub AreTold : Instance → List Cut → List PoolTree → List Held → Type 0
AreTold i cuts pool held = (j : ℕ) (h : Held) → slice_get held j ≡ Some h → IsHeld i cuts pool h

-- the columns of what is missing in the first n rows come first, in the order of the rows
abbrev pub HasMissing : ℕ → List Held → Type 0
HasMissing n held = (r : ℕ) → r < n → (h : Held) × (slice_get held r ≡ Some h) × (h.kind ≡ Missing r)

-- each of the first n rows that has a column of what is beyond has it listed
abbrev pub HasBeyonds : Instance → List Cut → ℕ → List Held → Type 0
HasBeyonds i cuts n held = (r : ℕ) → r < n → HoldsAt HasBeyond (rows_of i cuts) r
    → (j : ℕ) × (h : Held) × (slice_get held j ≡ Some h) × (h.kind ≡ Beyond r)

-- the listed columns, those of the rows among them
pub record AreHeld (i : Instance) (cuts : List Cut) (pool : List PoolTree) (held : List Held) : Type 0 where
  pub each : AreTold i cuts pool held
  pub units : HasMissing (length (rows_of i cuts)) held
  pub beyonds : HasBeyonds i cuts (length (rows_of i cuts)) held

-- the workspace is that of a node
pub record IsWorkspace (i : Instance) (cuts : List Cut) (pool : List PoolTree) (workspace : ColumnWorkspace) : Type 0 where
  pub held : AreHeld i cuts pool workspace.held
  pub wanted : All (λ (j : ℕ). j < length workspace.held) workspace.wanted
  pub prices : IsRoomFor workspace.prices i
  pub few : length cuts ≤ workspace.prices.most
  pub tree : workspace.tree.most ≡ most_uses i.grammar
  pub numbers : length workspace.numbers.items ≡ length i.cells + 2 + length cuts

-- the workspace is that of a node, with no column listed
pub record IsEmptyWorkspace (i : Instance) (cuts : List Cut) (workspace : ColumnWorkspace) : Type 0 where
  pub held : workspace.held ≡ []
  pub wanted : workspace.wanted ≡ []
  pub prices : IsRoomFor workspace.prices i
  pub few : length cuts ≤ workspace.prices.most
  pub tree : workspace.tree.most ≡ most_uses i.grammar
  pub numbers : length workspace.numbers.items ≡ length i.cells + 2 + length cuts

-- column j is listed and has the key
pub record HasKey (g : Grammar) (pool : List PoolTree) (held : List Held) (j : ℕ)
    (k : MasterKey) : Type 0 where
  pub one : Held
  pub at : slice_get held j ≡ Some one
  pub key : IsKey g pool one.kind k

abbrev pub Lists : NodeState → ℕ → MasterKey → Type 0
Lists s j k = HasKey s.instance.grammar s.pool s.workspace.held j k

-- the listed columns keep their numbers, and others may come behind
abbrev pub HasMore : List Held → List Held → Type 0
HasMore old new = (more : List Held) × (new ≡ old ++ more)

-- all that is lent fits together
pub record IsReady (s : NodeState) : Type 0 where
  pub sound : IsSoundInstance s.instance
  pub graph : IsGraph s.instance.grammar s.graph
  pub pricer : IsMadeFor s.graph s.pricer
  pub pool : IsPool s.instance.grammar s.pool
  pub rows : AreRows s.instance s.cuts s.rows
  pub small : length (rows_of s.instance s.cuts) ≤ 1500
  pub cuts : Each IsSmallCut s.cuts
  pub workspace : IsWorkspace s.instance s.cuts s.pool s.workspace

-- the pool and the listed columns grew
pub record IsKept (old new : NodeState) : Type 0 where
  pub instance : old.instance ≡ new.instance
  pub cuts : old.cuts ≡ new.cuts
  pub graph : old.graph ≡ new.graph
  pub pool : IsGrown old.pool new.pool
  pub lists : (j : ℕ) (k : MasterKey) → Lists old j k → Lists new j k

abbrev pub state_of : Instance → List Cut → GraphView → NodeRows → PricerView → List PoolTree → ColumnWorkspace
    → NodeState
state_of i cuts g rows p pool workspace =
    record { instance = i; cuts = cuts; graph = g; rows = rows; pricer = p; pool = pool; workspace = workspace }
