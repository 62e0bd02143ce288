-- What is asked for a turn of the search, and what it leads to.
use Rattle.std.specs.Prelude.{ℕ, ◌≡◌, ◌≤◌, ◌<◌, ◌+◌, ◌⊎◌, Bool, IsTrue, List, [], ◌∷◌, length}
use Rattle.model_rosters.specs.declared.instance.Cut.{Cut}
use Rattle.model_rosters.specs.declared.instance.Instance.{Instance}
use Rattle.model_rosters.specs.Cuts.{base_cuts}
use Rattle.tree_graph.specs.Graphs.{GraphView}
use Rattle.law_bounds.specs.master_laws.Rows.{rows_of}
use Rattle.law_bounds.specs.master_laws.Sharp.{IsHard}
use Rattle.check_certificates.specs.growing_laws.Grown.{Grown, fresh}
use Rattle.search_open_nodes.specs.declared.leaf.OpenLeaf.{OpenLeaf}
use Rattle.search_tree.specs.Views.{IsPlace}
use Rattle.search_tree.specs.Trees.{last_count}
use Rattle.search_candidates.specs.Offers.{limit_of}
use Rattle.search_branch_price.specs.declared.progress.Progress.{Progress}
use Rattle.search_branch_price.specs.declared.turn_end.TurnEnd.{TurnEnd}
use Rattle.search_branch_price.specs.declared.turn_end.TurnEnd.TheVariants.{Done, Stopped, StoppedAtRoot}
use Rattle.search_branch_price.specs.declared.turn_end.RootPrices.{RootPrices}
use Rattle.search_branch_price.specs.Roots.{IsHaltedAtRoot}
use Rattle.search_branch_price.specs.Searching.{site_of, IsSearching}

-- a leaf that was taken from those that wait
pub record AsksTurn (i : Instance) (v : GraphView) (strict : Bool) (now : ℕ) (p : Progress)
    (leaf : OpenLeaf) : Type 0 where
  pub before : ℕ
  pub tree : Grown
  pub is : IsSearching (site_of i v strict before) now leaf.bound (leaf ∷ []) p tree
  pub below : leaf.bound < limit_of i p.best
  pub few : p.tree.processed < 10000

-- a leaf that is not processed, below these cuts, and leaves the least bound
pub record AsksNode (i : Instance) (v : GraphView) (strict : Bool) (before now low : ℕ) (p : Progress)
    (leaf : OpenLeaf) (cuts : List Cut) : Type 0 where
  pub tree : Grown
  pub is : IsSearching (site_of i v strict before) now low (leaf ∷ []) p tree
  pub place : IsPlace (base_cuts i) tree leaf.kept.seat leaf.bound cuts fresh
  pub bound : leaf.bound ≡ low
  pub few : p.tree.processed < 10000

-- one more node is processed, no leaf is in hand, and the best roster gave way to none that costs more
pub record IsTurned (i : Instance) (v : GraphView) (strict : Bool) (before now low : ℕ)
    (old new : Progress) : Type 0 where
  pub tree : Grown
  pub is : IsSearching (site_of i v strict before) now low [] new tree
  pub processed : new.tree.processed ≡ old.tree.processed + 1
  pub falls : limit_of i new.best ≤ limit_of i old.best

-- the watch stopped the turn, and is not patient: a leaf that leaves the least bound is in hand, as many nodes
-- are processed as before, and the best roster gave way to none that costs more
pub record IsStopped (i : Instance) (v : GraphView) (strict : Bool) (before now low : ℕ) (patient : Bool)
    (old new : Progress) (leaf : OpenLeaf) : Type 0 where
  pub restless : IsTrue patient → ⊥
  pub tree : Grown
  pub is : IsSearching (site_of i v strict before) now low (leaf ∷ []) new tree
  pub bound : leaf.bound ≡ low
  pub processed : new.tree.processed ≡ old.tree.processed
  pub falls : limit_of i new.best ≤ limit_of i old.best

-- the watch stopped the first turn, and is not patient: the root has prices, and the best roster gave way to none
-- that costs more
pub record IsStoppedAtRoot (i : Instance) (patient : Bool) (old new : Progress) (root : RootPrices) : Type 0 where
  pub restless : IsTrue patient → ⊥
  pub halted : IsHaltedAtRoot i new.best root
  pub falls : limit_of i new.best ≤ limit_of i old.best

-- a turn ends with its node processed, or stopped
abbrev pub EndsTurn : Instance → GraphView → Bool → ℕ → ℕ → ℕ → Bool → Progress → Progress → TurnEnd → Type 0
EndsTurn i v strict before now low patient old new Done = IsTurned i v strict before now low old new
EndsTurn i v strict before now low patient old new (Stopped leaf) =
    IsStopped i v strict before now low patient old new leaf
EndsTurn i v strict before now low patient old new (StoppedAtRoot root) = IsStoppedAtRoot i patient old new root

-- the node's master failed for a cause that may be
pub record IsGivenUp (i : Instance) (strict : Bool) (now later : ℕ) (cuts : List Cut) : Type 0 where
  pub hard : IsTrue strict → IsHard i cuts
  pub cause : (now < later) ⊎ (later ≡ last_count) ⊎ ((now ≤ later) × (1500 < length (rows_of i cuts)))
  pub within : later ≤ last_count

-- a leaf that is not processed and leaves the same bound is in hand; as many nodes are processed as before,
-- and the best roster is the same
pub record AsksHalf (i : Instance) (v : GraphView) (strict : Bool) (before now low : ℕ) (old new : Progress)
    (half : OpenLeaf) : Type 0 where
  pub path : List Cut
  pub node : AsksNode i v strict before now low new half path
  pub processed : new.tree.processed ≡ old.tree.processed
  pub best : new.best ≡ old.best

-- nothing is processed, and the best roster is one of equal shifts of least price where this is allowed
pub record IsBegun (i : Instance) (v : GraphView) (p : Progress) : Type 0 where
  pub is : (strict : Bool) (before : ℕ) → (t : Grown)
      × IsSearching (site_of i v strict before) before 0 [] p t
  pub none : p.tree.processed ≡ 0
