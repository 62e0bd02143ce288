-- What is asked for a step, and what it leads to.
use Rattle.std.specs.Prelude.{ℕ, ◌≡◌, ◌≤◌, ◌<◌, ◌+◌, ◌⊎◌, IsTrue, Option, None, Some, MatchOption, List, [], ◌∷◌, length, slice_get}
use Rattle.model_rosters.specs.declared.grammar.ArcKey.{ArcKey}
use Rattle.model_rosters.specs.declared.instance.Cut.{Cut}
use Rattle.model_rosters.specs.declared.instance.Prices.{Prices}
use Rattle.model_rosters.specs.Cuts.{base_cuts}
use Rattle.law_bounds.specs.Pinned.{IsPinned, IsPinnedValue}
use Rattle.law_bounds.specs.master_laws.Rows.{rows_of}
use Rattle.law_bounds.specs.master_laws.Sharp.{IsHard}
use Rattle.check_certificates.specs.growing_laws.Grown.{Grown, fresh}
use Rattle.check_certificates.specs.growing_laws.States.{IsPricedNode, IsLoosePath, IsSplitAt}
use Rattle.search_open_nodes.specs.declared.leaf.Plan.{Plan}
use Rattle.search_open_nodes.specs.declared.leaf.OpenLeaf.{OpenLeaf}
use Rattle.search_tree.specs.Views.{TreeView, Site, IsPlace}
use Rattle.search_tree.specs.Trees.{last_count, IsPlan, IsTree}

-- a leaf with prices is in hand, to be split where its plan says
pub record AsksSplit (w : TreeView) (leaf : OpenLeaf) (plan : Plan) (arc : ArcKey) : Type 0 where
  pub site : Site
  pub limit : ℕ
  pub now : ℕ
  pub tree : Grown
  pub is : IsTree site limit now leaf.bound (leaf ∷ []) w tree
  pub below : leaf.bound < limit
  pub kept : leaf.kept.plan ≡ Some plan
  pub at : slice_get site.graph.arcs plan.arc ≡ Some arc
  pub few : w.processed ≤ 10000

-- the split stands, one half waits and the other is in hand
pub record IsHalved (s : Site) (limit now : ℕ) (old new : TreeView) (leaf half : OpenLeaf) : Type 0 where
  pub tree : Grown
  pub is : IsTree s limit now leaf.bound (half ∷ []) new tree
  pub bound : half.bound ≡ leaf.bound
  pub fresh : half.kept.plan ≡ None
  pub processed : new.processed ≡ old.processed

-- a leaf that is not processed is in hand
pub record AsksLeaf (w : TreeView) (leaf : OpenLeaf) : Type 0 where
  pub site : Site
  pub limit : ℕ
  pub now : ℕ
  pub low : ℕ
  pub tree : Grown
  pub path : List Cut
  pub is : IsTree site limit now low (leaf ∷ []) w tree
  pub place : IsPlace (base_cuts site.day) tree leaf.kept.seat leaf.bound path fresh
  pub few : w.processed < 10000

-- the leaf is processed, and nothing is in hand
pub record IsProcessed (s : Site) (limit now low : ℕ) (old new : TreeView) : Type 0 where
  pub tree : Grown
  pub is : IsTree s limit now low [] new tree
  pub processed : new.processed ≡ old.processed + 1

-- the leaf's cuts leave each arc one count, and these cost no less than the limit
pub record AsksPinned (w : TreeView) (leaf : OpenLeaf) (value : ℕ) : Type 0 where
  pub taken : AsksLeaf w leaf
  pub pinned : IsPinned taken.site.day taken.path
  pub costs : IsPinnedValue taken.site.day taken.path value
  pub above : taken.limit ≤ value

-- prices at the leaf, what they show, and where to split it
pub record AsksPriced (w : TreeView) (leaf : OpenLeaf) (prices : Prices) (value : ℕ)
    (plan : Option Plan) : Type 0 where
  pub taken : AsksLeaf w leaf
  pub priced : IsPricedNode taken.site.day taken.path (record { prices = prices; value = value })
  pub loose : IsLoosePath taken.site.day taken.path
  pub planned : MatchOption plan (taken.limit ≤ value) (IsPlan taken.site.day taken.site.graph taken.path prices)

-- the leaf's master failed, and its count was `later` then
pub record AsksFailed (w : TreeView) (leaf : OpenLeaf) (arc : ArcKey) (b later : ℕ) : Type 0 where
  pub taken : AsksLeaf w leaf
  pub splits : IsSplitAt taken.site.day taken.path arc b
  pub hard : IsTrue taken.site.strict → IsHard taken.site.day taken.path
  pub cause : (taken.now < later) ⊎ (later ≡ last_count)
      ⊎ ((taken.now ≤ later) × (1500 < length (rows_of taken.site.day taken.path)))
  pub within : later ≤ last_count
