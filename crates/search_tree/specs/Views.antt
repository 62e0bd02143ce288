-- What a contract sees of the tree of a search.
use Rattle.std.specs.Prelude.{ℕ, ◌≡◌, ◌⊎◌, Bool, List, [], ◌∷◌, ◌++◌}
use Rattle.model_rosters.specs.declared.instance.Cut.{Cut}
use Rattle.model_rosters.specs.declared.instance.Instance.{Instance}
use Rattle.check_certificates.specs.Nodes.{low_cut, high_cut}
use Rattle.tree_graph.specs.Graphs.{GraphView}
use Rattle.check_certificates.specs.declared.growing_laws.seat.Seat.{Seat}
use Rattle.check_certificates.specs.growing_laws.Grown.{Grown, tip, fork, Leaf, raised}
use Rattle.check_certificates.specs.growing_laws.Opens.{Entry}
use Rattle.check_certificates.specs.growing_laws.Seats.{StandsAt}
use Rattle.search_open_nodes.specs.declared.leaf.OpenLeaf.{OpenLeaf}

-- a seat for each node, the open leaves that wait, how many nodes are processed, and how many splits
-- have no prices
pub record TreeView : Type 0 where
  pub seats : List Seat
  pub waiting : List OpenLeaf
  pub processed : ℕ
  pub failed : ℕ

-- whose search it is: the instance and its graph, whether the master is strict, and the master's count of
-- refusals when the search began
pub record Site : Type 0 where
  pub day : Instance
  pub graph : GraphView
  pub strict : Bool
  pub before : ℕ

-- a waiting leaf by its number and its bound
abbrev pub entry_of : OpenLeaf → Entry
entry_of o = record { seat = o.kept.seat; bound = o.bound }

-- the leaf of number n stands below these cuts, and the prices above it show at most `up`
abbrev pub IsLeafAt : ℕ → List Cut → Grown → ℕ → ℕ → List Cut → Leaf → Type 0
IsLeafAt above cuts (tip k l) n up path leaf = (k ≡ n) × (above ≡ up) × (cuts ≡ path) × (l ≡ leaf)
IsLeafAt above cuts (fork k a b own low high) n up path leaf =
    IsLeafAt (raised above own) (cuts ++ low_cut a b ∷ []) low n up path leaf
    ⊎ IsLeafAt (raised above own) (cuts ++ high_cut a b ∷ []) high n up path leaf

-- where the leaf of a number stands
pub record IsPlace (cuts : List Cut) (t : Grown) (n up : ℕ) (path : List Cut) (leaf : Leaf) : Type 0 where
  pub at : IsLeafAt 0 cuts t n up path leaf
  pub stands : StandsAt cuts t n path
