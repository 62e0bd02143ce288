-- Counts over the arcs in the order of a graph, and over the arcs in their own order.
use Rattle.std.proofs.Common.{◌≡◌, ℕ, arith, ◌*◌, cond, List, sym, ◌∙◌}
use Rattle.model_rosters.specs.declared.grammar.ArcKey.{ArcKey}
use Rattle.model_rosters.specs.declared.grammar.Grammar.{Grammar}
use Rattle.model_rosters.specs.declared.instance.Instance.{Instance}
use Rattle.model_rosters.specs.Arcs.{same_arc, IsArc}
use Rattle.model_rosters.specs.Folds.{sum_n, count}
use Rattle.model_rosters.specs.SoundInstance.{IsSoundInstance}
use Rattle.model_rosters.specs.Trees.{Parts}
use Rattle.model_rosters.specs.arc_laws.OrNodes.{OrNode, name, suffix, same_node, made, used}
use Rattle.model_rosters.specs.arc_laws.Lists.{AreArcs}
use Rattle.model_rosters.specs.arc_laws.Balance.{made_sum, used_sum, IsBalanced}
use Rattle.model_rosters.proofs.arc_laws.ArcSums.{counted}
use Rattle.model_rosters.proofs.arc_laws.FoldsLemmas.{sum_n-same}
use Rattle.model_rosters.proofs.arc_laws.SameArc.{rising-once}
use Rattle.model_rosters.proofs.arc_laws.StandOnceLemmas.{once-counted}
use Rattle.tree_graph.specs.Graphs.{GraphView, HasArcs, IsGraph}
use Rattle.tree_graph.proofs.PlacesLemmas.{in-graph, of-graph}
use Rattle.search_arc_counts.specs.roster_split.Counts.{count_of}
use Rattle.search_arc_counts.specs.roster_split.Splits.{HasBalance}
use Rattle.search_arc_counts.specs.roster_split.Balanced.{AreTreesOf}
use Rattle.search_candidates.specs.Offers.{CanBeTrees, HaveCountsOf}

module _ (g : Grammar) (xs : List ArcKey) (arcs : HasArcs g xs) (listed : List ArcKey) (are : AreArcs g listed) (v : ArcKey → ℕ) where
  -- each weighted sum is the same over both lists
  order-same : (f : ArcKey → ℕ) → sum_n (λ a. v a * f a) xs ≡ sum_n (λ a. v a * f a) listed
  order-same f =
      let once = counted (λ a. v a * f a) listed xs (rising-once listed are.rising) (λ a h. are.whole a (in-graph g xs arcs a h)) in
      sym once ∙ sum_n-same (λ a. count (same_arc a) xs * (v a * f a)) (λ a. v a * f a) listed (λ a h. one a (are.sound a h))
    where
      one : (a : ArcKey) → IsArc g a → count (same_arc a) xs * (v a * f a) ≡ v a * f a
      one a is = let e = once-counted xs arcs.once a (of-graph g xs arcs a is) in rw e (omega arith)

  made-same : (o : OrNode) → made_sum g xs v o ≡ made_sum g listed v o
  made-same o = order-same (λ a. cond (same_node o (made g a)) 1 0)

  used-same : (o : OrNode) → used_sum g xs v o ≡ used_sum g listed v o
  used-same o = order-same (λ a. count (same_node o) (used g a))

  pub balanced-moved : IsBalanced g listed v → IsBalanced g xs v
  balanced-moved h = record {
    names = λ x s l apart. made-same (name x s l) ∙ h.names x s l apart ∙ sym (used-same (name x s l));
    suffixes = λ r k s l. made-same (suffix r k s l) ∙ h.suffixes r k s l ∙ sym (used-same (suffix r k s l));
  }

module _ (i : Instance) (v : GraphView) (counts : List ℕ) (graph : IsGraph i.grammar v) where
  -- counts that can be trees are balanced over the arcs of the graph
  pub has-balance : IsSoundInstance i → CanBeTrees i v counts → HasBalance v counts
  has-balance sound can = record {
    g = i.grammar;
    sound = sound.grammar;
    graph = graph;
    each = can.each;
    balanced = balanced-moved i.grammar v.arcs graph.arcs can.listed can.are (count_of v.arcs counts) can.balanced;
  }

  -- trees that have the counts by the arcs of the graph have them by any list of the arcs
  pub have-counts : (ts : List Parts) → AreTreesOf i.grammar v.arcs (count_of v.arcs counts) ts → HaveCountsOf i v counts ts
  have-counts ts h = λ listed are. record {
    day = h.day;
    counts = λ a here. h.counts a (of-graph i.grammar v.arcs graph.arcs a (are.sound a here));
  }
