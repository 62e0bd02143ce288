-- A leaf is processed: what the steps of the tree ask, and what they lead to.
use Rattle.std.proofs.Common.{◌≡◌, ℕ, arith, ◌≤◌, ◌<◌, ◌+◌, ◌/◌, Bool, IsTrue, Option, Some, MatchOption, List, [], ◌∷◌, length, inl, inr, ◌⊎◌, refl, sym, subst}
use Rattle.std.specs.Prelude.{slice_get}
use Rattle.model_rosters.specs.declared.grammar.ArcKey.{ArcKey}
use Rattle.model_rosters.specs.declared.instance.Cut.{Cut}
use Rattle.model_rosters.specs.declared.instance.Instance.{Instance}
use Rattle.model_rosters.specs.declared.instance.Prices.{Prices}
use Rattle.search_arc_counts.specs.count_boxes.Boxes.{BoxView, bounds_at}
use Rattle.search_arc_counts.specs.count_boxes.Paths.{IsBoxOf, IsLooseAt}
use Rattle.law_bounds.specs.Pinned.{IsPinned, IsPinnedValue}
use Rattle.tree_graph.specs.Graphs.{GraphView, IsGraph}
use Rattle.std.proofs.lemmas.Option.{slice_get_within}
use Rattle.check_certificates.specs.growing_laws.States.{IsPricedNode, IsLoosePath, IsSplitAt}
use Rattle.search_open_nodes.specs.declared.leaf.Plan.{Plan}
use Rattle.search_open_nodes.specs.declared.leaf.OpenLeaf.{OpenLeaf}
use Rattle.search_tree.specs.Views.{TreeView}
use Rattle.search_tree.specs.Trees.{IsPlan}
use Rattle.search_tree.specs.Asked.{AsksLeaf, AsksPinned, AsksPriced, AsksFailed, IsProcessed}
use Rattle.search_tree.proofs.TreeLaws.{limit-falls, count-rises}
use Rattle.search_tree.specs.Trees.{last_count}
use Rattle.law_bounds.specs.master_laws.Rows.{rows_of}
use Rattle.tree_pool.specs.Pools.{PoolTree}
use Rattle.search_masters.specs.declared.ends.Cause.{Cause}
use Rattle.search_masters.specs.declared.ends.Cause.TheVariants.{Rows, Wide, Spent}
use Rattle.search_masters.specs.declared.ends.NodeEnd.TheVariants.{Failed}
use Rattle.search_masters.specs.Refusals.{EndsWell, counted, one_more}
use Rattle.search_candidates.specs.declared.roster.Roster.{Roster}
use Rattle.search_candidates.specs.Offers.{limit_of, IsBetter}
use Rattle.search_branch_price.specs.declared.progress.Progress.{Progress}
use Rattle.search_branch_price.specs.Searching.{site_of}
use Rattle.search_branch_price.specs.declared.turn_end.TurnEnd.{TurnEnd}
use Rattle.search_branch_price.specs.declared.turn_end.TurnEnd.TheVariants.{Done, Stopped, StoppedAtRoot}
use Rattle.search_branch_price.specs.Steps.{AsksNode, IsTurned, IsStopped, IsGivenUp, EndsTurn}

-- the leaf in hand, once the best roster gave way to another one
abbrev pub taken : (i : Instance) (v : GraphView) (strict : Bool) (before now low : ℕ) (p : Progress) (leaf : OpenLeaf) (cuts : List Cut) (best : Option Roster)
    → AsksNode i v strict before now low p leaf cuts → IsBetter i p.best best → AsksLeaf p.tree leaf
taken i v strict before now low p leaf cuts best asked better = record {
  site = site_of i v strict before;
  limit = limit_of i best;
  now = now;
  low = low;
  tree = asked.tree;
  path = cuts;
  is = limit-falls (site_of i v strict before) (limit_of i p.best) (limit_of i best) now low (leaf ∷ []) p.tree asked.tree asked.is.tree better.falls;
  place = asked.place;
  few = asked.few;
}

pub same-best : (i : Instance) (v : GraphView) (strict : Bool) (before now low : ℕ) (p : Progress) (leaf : OpenLeaf) (cuts : List Cut)
    → AsksNode i v strict before now low p leaf cuts → IsBetter i p.best p.best
same-best i v strict before now low p leaf cuts asked = record { falls = omega arith; good = asked.is.best; start = λ h. h }

pub turned-by : (i : Instance) (v : GraphView) (strict : Bool) (before now later low : ℕ) (p : Progress) (leaf : OpenLeaf) (cuts : List Cut) (best : Option Roster) (w : TreeView)
    → AsksNode i v strict before now low p leaf cuts → IsBetter i p.best best
    → IsProcessed (site_of i v strict before) (limit_of i best) later low p.tree w
    → IsTurned i v strict before later low p (record { tree = w; best = best })
turned-by i v strict before now later low p leaf cuts best w asked better done = record {
  tree = done.tree;
  is = record { tree = done.is; best = better.good; start = λ h. better.start (asked.is.start h) };
  processed = done.processed;
  falls = better.falls;
}

-- an arc that is left more than one count
module _ (i : Instance) (v : GraphView) (cuts : List Cut) (box : BoxView) (left : IsBoxOf i v cuts box) (loose : ℕ) (is : IsLooseAt i v cuts loose) where
  pub loose-within : loose < length v.arcs
  loose-within = slice_get_within v.arcs loose is.0 is.1

  pub loose-path : IsGraph i.grammar v → IsLoosePath i cuts
  loose-path graph = (is.0, graph.arcs.sound loose is.0 is.1, is.2)

  pub mid-split : IsGraph i.grammar v → (key : ArcKey) (b : ℕ) → slice_get v.arcs loose ≡ Some key
      → (bounds_at box.bounds loose).low ≤ b → b < (bounds_at box.bounds loose).high → IsSplitAt i cuts key b
  mid-split graph key b at low high =
      let l = left.low loose key at in
      let h = left.high loose key at in
      record { arc = graph.arcs.sound loose key at; low = omega (arith, l, low); high = omega (arith, h, high) }

  pub loose-bounds : (bounds_at box.bounds loose).low < (bounds_at box.bounds loose).high
  loose-bounds =
      let l = left.low loose is.0 is.1 in
      let h = left.high loose is.0 is.1 in
      let lt = is.2 in
      omega (arith, l, h, lt)

pub middle-split : (i : Instance) (v : GraphView) (cuts : List Cut) (box : BoxView) (loose low high b : ℕ) (key : ArcKey) → IsGraph i.grammar v
    → IsBoxOf i v cuts box → IsLooseAt i v cuts loose → slice_get v.arcs loose ≡ Some key → low ≡ (bounds_at box.bounds loose).low
    → high ≡ (bounds_at box.bounds loose).high → b ≡ (low + high) / 2 → IsSplitAt i cuts key b
middle-split i v cuts box loose low high b key graph left is at l h mid =
    let lt = loose-bounds i v cuts box left loose is in
    mid-split i v cuts box left loose is graph key b at (omega (arith, lt, l, h, mid)) (omega (arith, lt, l, h, mid))

abbrev pub asks-failed : (i : Instance) (v : GraphView) (strict : Bool) (before now later low : ℕ) (p : Progress) (leaf : OpenLeaf) (cuts : List Cut) (arc : ArcKey) (b : ℕ)
    → AsksNode i v strict before now low p leaf cuts → IsGivenUp i strict now later cuts → IsSplitAt i cuts arc b → AsksFailed p.tree leaf arc b later
asks-failed i v strict before now later low p leaf cuts arc b asked given splits = record {
  taken = taken i v strict before now low p leaf cuts p.best asked (same-best i v strict before now low p leaf cuts asked);
  splits = splits;
  hard = given.hard;
  cause = given.cause;
  within = given.within;
}

abbrev pub asks-pinned : (i : Instance) (v : GraphView) (strict : Bool) (before now low : ℕ) (p : Progress) (leaf : OpenLeaf) (cuts : List Cut) (best : Option Roster) (value : ℕ)
    → AsksNode i v strict before now low p leaf cuts → IsBetter i p.best best → IsPinned i cuts → IsPinnedValue i cuts value → limit_of i best ≤ value
    → AsksPinned p.tree leaf value
asks-pinned i v strict before now low p leaf cuts best value asked better pinned costs above = record {
  taken = taken i v strict before now low p leaf cuts best asked better;
  pinned = pinned;
  costs = costs;
  above = above;
}

abbrev pub asks-priced : (i : Instance) (v : GraphView) (strict : Bool) (before now low : ℕ) (p : Progress) (leaf : OpenLeaf) (cuts : List Cut) (best : Option Roster) (prices : Prices) (value : ℕ) (plan : Option Plan)
    → AsksNode i v strict before now low p leaf cuts → IsBetter i p.best best → IsPricedNode i cuts (record { prices = prices; value = value }) → IsLoosePath i cuts
    → MatchOption plan (limit_of i best ≤ value) (IsPlan i v cuts prices) → AsksPriced p.tree leaf prices value plan
asks-priced i v strict before now low p leaf cuts best prices value plan asked better priced loose planned = record {
  taken = taken i v strict before now low p leaf cuts best asked better;
  priced = priced;
  loose = loose;
  planned = planned;
}

-- the master's count may have risen since
pub later-node : (i : Instance) (v : GraphView) (strict : Bool) (before now later low : ℕ) (p : Progress) (leaf : OpenLeaf) (cuts : List Cut)
    → AsksNode i v strict before now low p leaf cuts → now ≤ later → later ≤ last_count → AsksNode i v strict before later low p leaf cuts
later-node i v strict before now later low p leaf cuts asked rises within = record {
  tree = asked.tree;
  is = record {
    tree = count-rises (site_of i v strict before) (limit_of i p.best) now later low (leaf ∷ []) p.tree asked.tree asked.is.tree rises within;
    best = asked.is.best;
    start = asked.is.start;
  };
  place = asked.place;
  bound = asked.bound;
  few = asked.few;
}

-- the best roster may have given way to another one
pub node-better : (i : Instance) (v : GraphView) (strict : Bool) (before now low : ℕ) (p : Progress) (leaf : OpenLeaf) (cuts : List Cut) (best : Option Roster)
    → AsksNode i v strict before now low p leaf cuts → IsBetter i p.best best → AsksNode i v strict before now low (record { tree = p.tree; best = best }) leaf cuts
node-better i v strict before now low p leaf cuts best asked better = record {
  tree = asked.tree;
  is = record {
    tree = limit-falls (site_of i v strict before) (limit_of i p.best) (limit_of i best) now low (leaf ∷ []) p.tree asked.tree asked.is.tree better.falls;
    best = better.good;
    start = λ h. better.start (asked.is.start h);
  };
  place = asked.place;
  bound = asked.bound;
  few = asked.few;
}

-- a leaf that is processed then is processed
pub better-turned : (i : Instance) (v : GraphView) (strict : Bool) (before now low : ℕ) (p : Progress) (best : Option Roster) (new : Progress)
    → IsBetter i p.best best → IsTurned i v strict before now low (record { tree = p.tree; best = best }) new → IsTurned i v strict before now low p new
better-turned i v strict before now low p best new better turned = record {
  tree = turned.tree;
  is = turned.is;
  processed = turned.processed;
  falls = let f = turned.falls in let b = better.falls in omega (arith, f, b);
}

-- a turn that ends then has ended
pub better-ends : (i : Instance) (v : GraphView) (strict : Bool) (before now low : ℕ) (patient : Bool) (p : Progress) (best : Option Roster) (new : Progress) (end : TurnEnd)
    → IsBetter i p.best best → EndsTurn i v strict before now low patient (record { tree = p.tree; best = best }) new end → EndsTurn i v strict before now low patient p new end
better-ends i v strict before now low patient p best new Done better turned = better-turned i v strict before now low p best new better turned
better-ends i v strict before now low patient p best new (Stopped leaf) better stopped = record {
  restless = stopped.restless;
  tree = stopped.tree;
  is = stopped.is;
  bound = stopped.bound;
  processed = stopped.processed;
  falls = let f = stopped.falls in let b = better.falls in omega (arith, f, b);
}
better-ends i v strict before now low patient p best new (StoppedAtRoot root) better stopped = record {
  restless = stopped.restless;
  halted = stopped.halted;
  falls = let f = stopped.falls in let b = better.falls in omega (arith, f, b);
}

-- the watch stopped the turn, and the leaf in hand is as before
pub turn-stopped : (i : Instance) (v : GraphView) (strict : Bool) (before now low : ℕ) (patient : Bool) (p : Progress) (leaf : OpenLeaf) (cuts : List Cut)
    → AsksNode i v strict before now low p leaf cuts → (IsTrue patient → ⊥) → IsStopped i v strict before now low patient p p leaf
turn-stopped i v strict before now low patient p leaf cuts asked restless = record {
  restless = restless;
  tree = asked.tree;
  is = asked.is;
  bound = asked.bound;
  processed = refl;
  falls = omega arith;
}

-- a count that was to rise rose, or stands at its last value
refusal : (now later rows : ℕ) → later ≡ one_more now → (now < later) ⊎ (later ≡ last_count) ⊎ ((now ≤ later) × (1500 < rows))
refusal now later rows e = by (order now last_count)
  where
    order : (n m : ℕ) → (n < m) ⊎ (m ≤ n)
    order n m = grind arith

    by : (now < last_count) ⊎ (last_count ≤ now) → (now < later) ⊎ (later ≡ last_count) ⊎ ((now ≤ later) × (1500 < rows))
    by (inl lt) = inl (omega (arith, e, lt))
    by (inr le) = inr (inl (omega (arith, e, le)))

-- a master that failed had a cause
pub given-up : (i : Instance) (cuts : List Cut) (columns : List PoolTree) (now later : ℕ) (strict patient : Bool) (cause : Cause) → EndsWell i cuts columns strict patient (Failed cause)
    → later ≡ counted now (Failed cause) → later ≤ last_count → IsGivenUp i strict now later cuts
given-up i cuts columns now later strict patient (Rows count) h counts within =
    record { hard = λ s. inl h.0; cause = inr (inr (omega (arith, counts), h.0)); within = within }
given-up i cuts columns now later strict patient (Wide fault) h counts within = record { hard = h.hard; cause = refusal now later (length (rows_of i cuts)) counts; within = within }
given-up i cuts columns now later strict patient (Spent pivots) h counts within = record { hard = h.hard; cause = refusal now later (length (rows_of i cuts)) counts; within = within }
