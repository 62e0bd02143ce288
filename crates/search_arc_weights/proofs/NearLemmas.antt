-- What the sums tell of a near solution.
use Rattle.std.proofs.Common.{◌≡◌, ℕ, arith, ◌*◌, ◌/◌, ◌^◌, ◌≤◌, ◌<◌, List, Some, length, sym, ap, subst, ◌∙◌}
use Rattle.std.specs.Prelude.{slice_get, slice_index}
use Rattle.std.proofs.lemmas.List.{length-map}
use Rattle.model_rosters.specs.declared.grammar.ArcKey.{ArcKey}
use Rattle.model_rosters.specs.declared.instance.Cut.{Cut}
use Rattle.model_rosters.specs.declared.instance.Instance.{Instance}
use Rattle.model_rosters.specs.declared.instance.Prices.{Prices}
use Rattle.model_rosters.specs.Cuts.{lo, hi}
use Rattle.model_rosters.specs.SoundInstance.{IsSoundInstance}
use Rattle.tree_graph.specs.Graphs.{GraphView, IsGraph}
use Rattle.search_arc_counts.specs.count_boxes.Boxes.{BoxView}
use Rattle.search_arc_counts.specs.count_boxes.Paths.{IsBoxOf}
use Rattle.law_bounds.specs.near_laws.NearSharp.{IsWellBetween, IsNearly, LackMuch, near_weight}
use Rattle.tree_pool.specs.Pools.{PoolTree}
use Rattle.search_node_columns.specs.declared.weights.Weight.{Weight}
use Rattle.search_masters.specs.Ends.{IsNear}
use Rattle.search_arc_weights.specs.Weighed.{IsNearBetween, AreNearWhole}
use Rattle.search_arc_weights.specs.Denominators.{IsDenominator}
use Rattle.search_arc_weights.specs.Sums.{AreSums}
use Rattle.search_arc_weights.specs.Choices.{nearest, CountAsWhole, AreRounded, IsChoice, IsMissed}
use Rattle.search_arc_counts.specs.roster_split.Counts.{count_of}
use Rattle.search_arc_counts.proofs.roster_split.Places.{count-at}
use Rattle.search_arc_weights.proofs.Steps.{get_some, index_map}
use Rattle.search_arc_weights.proofs.SumsLemmas.{get_lt}
use Rattle.search_arc_weights.proofs.SolvingWeights.{of_near, all_is, weight_most, sum_is}
use Rattle.search_arc_weights.proofs.Margins.{well_between, nearly_nearest, well_over, nearly_over, below_high}
use Rattle.search_arc_weights.proofs.Lacking.{lack_much}

module _ (i : Instance) (v : GraphView) (cuts : List Cut) (columns : List PoolTree) (weights : List Weight)
    (sound : IsSoundInstance i) (graph : IsGraph i.grammar v) (d : ℕ) (common : IsDenominator weights d)
    (sums : List ℕ) (are : AreSums d v.arcs columns weights sums) where
  near_sum : (p : Prices) (w : IsNear i cuts columns p weights) (place : ℕ) (a : ArcKey) → slice_get v.arcs place ≡ Some a → 2 ^ 56 * slice_index sums place ≡ d * near_weight a w.trees
  near_sum p w place a e =
      let r = of_near i cuts columns weights p w in
      sum_is i v cuts columns weights sound d common r sums are place a e ∙ ap (λ (n : ℕ). d * n) (all_is i v cuts columns weights sound d common r a)

  near_most : (p : Prices) (w : IsNear i cuts columns p weights) (a : ArcKey) → near_weight a w.trees ≤ 2 ^ 56 * hi i.heads_max cuts a
  near_most p w a =
      let r = of_near i cuts columns weights p w in
      subst (λ (n : ℕ). n ≤ 2 ^ 56 * hi i.heads_max cuts a) (all_is i v cuts columns weights sound d common r a) (weight_most i v cuts columns weights sound d common r a)

  pub near_whole : (counts : List ℕ) → CountAsWhole d (d / 4096) sums → AreRounded d (d / 4096) sums counts → AreNearWhole i v cuts columns weights counts
  near_whole counts multiples rounded = record {
    each = ap length rounded ∙ length-map sums (λ (s : ℕ). nearest d (d / 4096) s) ∙ are.each;
    whole = λ p w a is. at p w a (graph.arcs.whole a is);
  }
    where
      at : (p : Prices) (w : IsNear i cuts columns p weights) (a : ArcKey) → ((place : ℕ) × (slice_get v.arcs place ≡ Some a))
          → IsNearly (2 ^ 56) (count_of v.arcs counts a) (near_weight a w.trees)
      at p w a (place, e) =
          let s = slice_index sums place in
          let l : place < length sums = omega (arith, are.each, get_lt v.arcs place a e) in
          let c : count_of v.arcs counts a ≡ nearest d (d / 4096) s =
          count-at v.arcs counts graph.arcs.once place a e ∙ ap (λ (xs : List ℕ). slice_index xs place) rounded ∙ index_map (λ (x : ℕ). nearest d (d / 4096) x) sums place l in
          rw c (nearly_over d (2 ^ 56) s (near_weight a w.trees) common.some (near_sum p w place a e) (nearest d (d / 4096) s) (nearly_nearest d s common.some (multiples place l)))

  module _ (box : BoxView) (left : IsBoxOf i v cuts box) where
    pub near_between : ((p : Prices) × IsNear i cuts columns p weights) → (arc b : ℕ) → IsChoice box.bounds d (d / 4096) sums (arc, b) → IsNearBetween i v cuts columns weights arc b
    near_between own arc b choice = at (get_some v.arcs arc (omega (arith, are.each, choice.at)))
      where
        well_sum : IsWellBetween d b (slice_index sums arc)
        well_sum = subst (λ (k : ℕ). IsWellBetween d k (slice_index sums arc)) (sym choice.above.floor) (well_between d (slice_index sums arc) common.some choice.above.part)

        at : ((a : ArcKey) × (slice_get v.arcs arc ≡ Some a)) → IsNearBetween i v cuts columns weights arc b
        at (a, e) = record {
          key = a;
          at = e;
          low = omega (arith, left.low arc a e, choice.above.low_is);
          high = below_high (2 ^ 56) b (near_weight a own.1.trees) (hi i.heads_max cuts a) (omega arith) (well own.0 own.1) (near_most own.0 own.1 a);
          well = well;
        }
          where
            well : (p : Prices) (w : IsNear i cuts columns p weights) → IsWellBetween (2 ^ 56) b (near_weight a w.trees)
            well p w = well_over d (2 ^ 56) (slice_index sums arc) (near_weight a w.trees) common.some (near_sum p w arc a e) b well_sum

    pub near_missed : IsMissed box.bounds d (d / 4096) sums → (p : Prices) (w : IsNear i cuts columns p weights) → LackMuch i cuts (2 ^ 56) w.trees
    near_missed m p w = at (get_some v.arcs m.place (omega (arith, are.each, m.at)))
      where
        at : ((a : ArcKey) × (slice_get v.arcs m.place ≡ Some a)) → LackMuch i cuts (2 ^ 56) w.trees
        at (a, e) =
            let s = slice_index sums m.place in
            let b : s / d < lo cuts a = omega (arith, m.below, left.low m.place a e) in
            let h = well_over d (2 ^ 56) s (near_weight a w.trees) common.some (near_sum p w m.place a e) (s / d) (well_between d s common.some m.part) in
            lack_much (2 ^ 56) w.trees i cuts a (s / d) h b
