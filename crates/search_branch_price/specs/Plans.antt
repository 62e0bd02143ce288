-- A split of a loose arc at its least count.
use Rattle.std.specs.Prelude.{ℕ, ◌≡◌, ◌≤◌, ◌<◌, List, ◌++◌, Option, MatchOption, length, slice_index}
use Rattle.model_rosters.specs.declared.instance.Cut.{Cut}
use Rattle.model_rosters.specs.declared.instance.Instance.{Instance}
use Rattle.model_rosters.specs.declared.instance.Prices.{Prices}
use Rattle.model_rosters.specs.declared.grammar.ArcKey.{ArcKey}
use Rattle.model_rosters.specs.Cuts.{base_cuts, lo, hi}
use Rattle.model_rosters.specs.Folds.{Each}
use Rattle.law_bounds.specs.Counted.{AsksForArc}
use Rattle.law_bounds.specs.Pinned.{IsPinned, IsPinnedValue}
use Rattle.search_arc_counts.specs.count_boxes.Boxes.{BoxView, bounds_at}
use Rattle.search_open_nodes.specs.declared.leaf.Plan.{Plan}
use Rattle.search_tree.specs.Trees.{IsPlan}
use Rattle.search_candidates.specs.declared.roster.Roster.{Roster}
use Rattle.search_candidates.specs.Offers.{limit_of}
use Rattle.search_primal.specs.declared.open_node.OpenNode.{OpenNode}

pub record IsPlanAt (box : BoxView) (arc : ℕ) (p : Plan) : Type 0 where
  pub same : p.arc ≡ arc
  pub least : p.b ≡ (bounds_at box.bounds arc).low

-- the box leaves the plan's arc both halves
pub record IsPlanLeft (box : BoxView) (p : Plan) : Type 0 where
  pub at : p.arc < length box.bounds
  pub low : (bounds_at box.bounds p.arc).low ≤ p.b
  pub high : p.b < (bounds_at box.bounds p.arc).high

-- the least counts of the arcs, by the arcs' numbers
pub record AreLeast (box : BoxView) (counts : List ℕ) : Type 0 where
  pub each : length counts ≡ length box.bounds
  pub least : (p : ℕ) → p < length box.bounds → slice_index counts p ≡ (bounds_at box.bounds p).low

-- the cuts are the base cuts and further ones, those that ask for trees that have an arc ask for one of the
-- instance, and each arc is left a count
pub record AskForArcs (i : Instance) (cuts : List Cut) : Type 0 where
  pub each : Each (AsksForArc i) cuts
  pub based : (more : List Cut) × (cuts ≡ base_cuts i ++ more)
  pub wide : (a : ArcKey) → lo cuts a ≤ hi i.heads_max cuts a

-- the least counts of the first arcs
pub record AreFirst (box : BoxView) (n : ℕ) (counts : List ℕ) : Type 0 where
  pub each : length counts ≡ n
  pub least : (p : ℕ) → p < n → slice_index counts p ≡ (bounds_at box.bounds p).low

-- the cuts leave each arc one count, these counts cost so much, and the cuts ask for arcs of the instance
pub record IsPinnedFor (i : Instance) (cuts : List Cut) (value : ℕ) : Type 0 where
  pub pinned : IsPinned i cuts
  pub costs : IsPinnedValue i cuts value
  pub asks : AskForArcs i cuts

-- a split that may be made at these prices; none where the value is no less than the best roster's cost
abbrev pub IsPlanFor : OpenNode → Option Roster → ℕ → Prices → Option Plan → Type 0
IsPlanFor n best value prices plan =
    MatchOption plan (limit_of n.searched.day.instance.now best ≤ value)
    (IsPlan n.searched.day.instance.now n.searched.day.graph.now n.cuts.now prices)
