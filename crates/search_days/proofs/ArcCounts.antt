-- A graph has as many arcs as the list of the arcs in their order.
use Rattle.std.proofs.Common.{◌≡◌, arith, ◌*◌, List, [], ◌∷◌, length, refl, sym, ◌∙◌}
use Rattle.model_rosters.specs.declared.grammar.ArcKey.{ArcKey}
use Rattle.model_rosters.specs.declared.grammar.Grammar.{Grammar}
use Rattle.model_rosters.specs.Arcs.{same_arc, IsArc}
use Rattle.model_rosters.specs.Folds.{sum_n, count}
use Rattle.model_rosters.specs.arc_laws.Lists.{AreArcs}
use Rattle.model_rosters.proofs.arc_laws.ArcSums.{counted}
use Rattle.model_rosters.proofs.arc_laws.FoldsLemmas.{sum_n-same}
use Rattle.model_rosters.proofs.arc_laws.SameArc.{rising-once}
use Rattle.model_rosters.proofs.arc_laws.StandOnceLemmas.{once-counted}
use Rattle.tree_graph.specs.Graphs.{GraphView, IsGraph, HasArcs}
use Rattle.tree_graph.proofs.PlacesLemmas.{in-graph, of-graph}
use Rattle.tree_graph.proofs.ArcOrderLemmas.{sorted-arcs}
use Rattle.search_days.specs.Solutions.{HasArcCount}

ones : {A : Type 0} (xs : List A) → sum_n (λ x. 1) xs ≡ length xs
ones [] = refl
ones (x ∷ xs) = omega (arith, ones xs)

module _ (g : Grammar) (xs : List ArcKey) (arcs : HasArcs g xs) (listed : List ArcKey) (are : AreArcs g listed) where
  same-length : length xs ≡ length listed
  same-length =
      let once = counted (λ a. 1) listed xs (rising-once listed are.rising) (λ a h. are.whole a (in-graph g xs arcs a h)) in
      sym (ones xs) ∙ sym once ∙ sum_n-same (λ a. count (same_arc a) xs * 1) (λ a. 1) listed (λ a h. one a (are.sound a h)) ∙ ones listed
    where
      one : (a : ArcKey) → IsArc g a → count (same_arc a) xs * 1 ≡ 1
      one a is = let e = once-counted xs arcs.once a (of-graph g xs arcs a is) in omega (arith, e)

pub graph-count : (g : Grammar) (v : GraphView) → IsGraph g v → HasArcCount g (length v.arcs)
graph-count g v is =
    let s = sorted-arcs g v.arcs (in-graph g v.arcs is.arcs) (of-graph g v.arcs is.arcs) in
    (s.0, s.1, same-length g v.arcs is.arcs s.0 s.1, is.few)
