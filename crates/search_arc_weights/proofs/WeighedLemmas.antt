-- What the sums tell of a solution.
use Rattle.std.proofs.Common.{◌≡◌, ℕ, arith, ◌+◌, ◌*◌, ◌/◌, ◌%◌, ◌^◌, ◌≤◌, ◌<◌, List, ◌++◌, Some, length, ap, ◌∙◌, ◌⊎◌, inl, inr}
use Rattle.std.specs.Prelude.{slice_get, slice_index}
use Rattle.std.proofs.lemmas.List.{length-map}
use Rattle.std.proofs.Math.Nat.{mul-le-mul_left}
use Rattle.model_rosters.specs.declared.grammar.ArcKey.{ArcKey}
use Rattle.model_rosters.specs.declared.instance.Cut.{Cut}
use Rattle.model_rosters.specs.declared.instance.Instance.{Instance}
use Rattle.model_rosters.specs.Cuts.{lo, hi}
use Rattle.model_rosters.specs.SoundInstance.{IsSoundInstance}
use Rattle.tree_graph.specs.Graphs.{GraphView, IsGraph}
use Rattle.search_arc_counts.specs.count_boxes.Boxes.{BoxView}
use Rattle.search_arc_counts.specs.count_boxes.Paths.{IsBoxOf}
use Rattle.law_bounds.specs.master_laws.Sharp.{UsesArtificial, AreFine, arc_weight}
use Rattle.tree_pool.specs.Pools.{PoolTree, IsPool}
use Rattle.search_node_columns.specs.declared.weights.Weight.{Weight}
use Rattle.search_masters.specs.declared.ends.Solution.{Solution}
use Rattle.search_masters.specs.declared.ends.Solution.TheVariants.{Exact, Near}
use Rattle.search_masters.specs.Ends.{AreLeastWeights, AreSolved}
use Rattle.search_arc_counts.specs.roster_split.Counts.{count_of}
use Rattle.search_arc_counts.proofs.roster_split.Places.{count-at}
use Rattle.search_arc_weights.specs.declared.weighed.Weighed.{Weighed}
use Rattle.search_arc_weights.specs.declared.weighed.Weighed.TheVariants.{Whole, Between, Other}
use Rattle.search_arc_weights.specs.Weighed.{IsBetween, AreWhole, IsWeighed}
use Rattle.search_arc_weights.specs.Denominators.{IsDenominator, AreAllPast}
use Rattle.search_arc_weights.specs.Sums.{AreSums}
use Rattle.search_arc_weights.specs.Choices.{margin_of, nearest, CountAsWhole, AreRounded, IsChoice, IsMissed, IsAnswer}
use Rattle.search_arc_weights.proofs.Steps.{get_some, index_map}
use Rattle.search_arc_weights.proofs.SumsLemmas.{get_lt}
use Rattle.search_arc_weights.proofs.RowBounds.{weight_enough}
use Rattle.search_arc_weights.proofs.Units.{cancel, less, less_times}
use Rattle.search_arc_weights.proofs.FineWeights.{are_fine, are_over}
use Rattle.search_arc_weights.proofs.SolvingWeights.{of_least, weight_most, sum_is}
use Rattle.search_arc_weights.proofs.Margins.{apart, nearest_floor, rest_none}
use Rattle.search_arc_weights.proofs.NearLemmas.{near_whole, near_between, near_missed}

module _ (i : Instance) (v : GraphView) (cuts : List Cut) (columns : List PoolTree) (weights : List Weight)
    (sound : IsSoundInstance i) (graph : IsGraph i.grammar v) (pool : IsPool i.grammar columns) where
  -- the weights have no small common denominator
  pub past_is : (s : Solution) → AreAllPast weights → AreSolved s i cuts columns weights → IsWeighed i v cuts columns weights s Other
  past_is Exact past own = λ w. inr (are_fine i.grammar columns w.d pool w.basic.solution.positive weights w.trees w.others w.are w.apart w.once past)
  past_is Near past own = λ p w.
      let few : 2 ^ 100 < 2 ^ 56 = past (2 ^ 56) (omega arith) (are_over i.grammar columns (2 ^ 56) (omega arith) weights _ w.are) in
      absurd (omega (arith, few))

  module _ (d : ℕ) (common : IsDenominator weights d) (sums : List ℕ) (are : AreSums d v.arcs columns weights sums) (box : BoxView) (left : IsBoxOf i v cuts box) where
    sum_of : (w : AreLeastWeights i cuts columns weights) (p : ℕ) (a : ArcKey) → slice_get v.arcs p ≡ Some a → w.d * slice_index sums p ≡ d * arc_weight a (w.trees ++ w.others)
    sum_of w = sum_is i v cuts columns weights sound d common (of_least i cuts columns weights w) sums are

    most_of : (w : AreLeastWeights i cuts columns weights) (a : ArcKey) → arc_weight a (w.trees ++ w.others) ≤ w.d * hi i.heads_max cuts a
    most_of w = weight_most i v cuts columns weights sound d common (of_least i cuts columns weights w)

    whole : (counts : List ℕ) → CountAsWhole d 0 sums → AreRounded d 0 sums counts → AreWhole i v cuts columns weights counts
    whole counts multiples rounded = record {
      each = ap length rounded ∙ length-map sums (λ (s : ℕ). nearest d 0 s) ∙ are.each;
      whole = λ w listed arcs. record { solution = w.basic.solution; arcs = arcs; whole = λ a h. at w a (graph.arcs.whole a (arcs.sound a h)) };
    }
      where
        at : (w : AreLeastWeights i cuts columns weights) (a : ArcKey) → ((p : ℕ) × (slice_get v.arcs p ≡ Some a)) → arc_weight a (w.trees ++ w.others) ≡ w.d * count_of v.arcs counts a
        at w a (p, e) =
            let l : p < length sums = omega (arith, are.each, get_lt v.arcs p a e) in
            let m : slice_index sums p % d ≡ 0 = rest_none d (slice_index sums p) common.some (multiples p l) in
            let c : count_of v.arcs counts a ≡ slice_index sums p / d =
            count-at v.arcs counts graph.arcs.once p a e ∙ ap (λ (xs : List ℕ). slice_index xs p) rounded ∙ index_map (λ (s : ℕ). nearest d 0 s) sums p l
            ∙ nearest_floor d 0 (slice_index sums p) (omega (arith, m)) in
            let s = sum_of w p a e in
            rw c (by (slice_index sums p) (arc_weight a (w.trees ++ w.others)) w.d m s)
          where
            by : (s n q : ℕ) → s % d ≡ 0 → q * s ≡ d * n → n ≡ q * (s / d)
            by s n q m e =
                let t : s ≡ d * (s / d) = omega (arith, m) in
                let u : q * s ≡ q * (d * (s / d)) = ap (λ (k : ℕ). q * k) t in
                cancel d n (q * (s / d)) common.some (omega (arith, e, u))

    between : AreLeastWeights i cuts columns weights → (arc b : ℕ) → IsChoice box.bounds d 0 sums (arc, b) → IsBetween i v cuts columns weights arc b
    between own arc b choice = at (get_some v.arcs arc (omega (arith, are.each, choice.at)))
      where
        low_sum : d * b < slice_index sums arc
        low_sum = let f = choice.above.floor in let p = (apart d 0 (slice_index sums arc) choice.above.part).0 in rw f (omega (arith, p))

        high_sum : slice_index sums arc < d * (b + 1)
        high_sum = let f = choice.above.floor in let p = common.some in rw f (below (slice_index sums arc) d p)
          where
            below : (s d : ℕ) → 1 ≤ d → s < d * (s / d + 1)
            below s d p = let l : s % d < d = omega arith in omega (arith, l)

        at : ((a : ArcKey) × (slice_get v.arcs arc ≡ Some a)) → IsBetween i v cuts columns weights arc b
        at (a, e) = record {
          key = a;
          at = e;
          low = omega (arith, left.low arc a e, choice.above.low_is);
          high = less own.d b (hi i.heads_max cuts a) (let m = more own in let l = most_of own a in omega (arith, m, l));
          more = more;
          less = λ w.
              let s = sum_of w arc a e in
              let l = less_times w.d (slice_index sums arc) (d * (b + 1)) w.basic.solution.positive high_sum in
              less d (arc_weight a (w.trees ++ w.others)) (w.d * (b + 1)) (omega (arith, s, l));
        }
          where
            more : (w : AreLeastWeights i cuts columns weights) → w.d * b < arc_weight a (w.trees ++ w.others)
            more w =
                let s = sum_of w arc a e in
                let l = less_times w.d (d * b) (slice_index sums arc) w.basic.solution.positive low_sum in
                less d (w.d * b) (arc_weight a (w.trees ++ w.others)) (omega (arith, s, l))

    missed : IsMissed box.bounds d 0 sums → (w : AreLeastWeights i cuts columns weights) → UsesArtificial i cuts (w.trees ++ w.others) ⊎ AreFine (w.trees ++ w.others) w.d
    missed m w = at (get_some v.arcs m.place (omega (arith, are.each, m.at)))
      where
        at : ((a : ArcKey) × (slice_get v.arcs m.place ≡ Some a)) → UsesArtificial i cuts (w.trees ++ w.others) ⊎ AreFine (w.trees ++ w.others) w.d
        at (a, e) = by (weight_enough i cuts (w.trees ++ w.others) w.d w.basic.solution a)
          where
            low_sum : slice_index sums m.place < d * lo cuts a
            low_sum =
                let b : slice_index sums m.place / d < lo cuts a = omega (arith, m.below, left.low m.place a e) in
                under (slice_index sums m.place) (lo cuts a) b
              where
                under : (s l : ℕ) → s / d < l → s < d * l
                under s l h =
                    let g : s / d + 1 ≤ l = omega arith in
                    let n : d * (s / d + 1) ≤ d * l = mul-le-mul_left d g in
                    let r : s % d < d = (let p = common.some in omega arith) in
                    omega (arith, n, r)

            by : UsesArtificial i cuts (w.trees ++ w.others) ⊎ (w.d * lo cuts a ≤ arc_weight a (w.trees ++ w.others)) → UsesArtificial i cuts (w.trees ++ w.others) ⊎ AreFine (w.trees ++ w.others) w.d
            by (inl u) = inl u
            by (inr l) =
                let s = sum_of w m.place a e in
                let k = less_times w.d (slice_index sums m.place) (d * lo cuts a) w.basic.solution.positive low_sum in
                let j = mul-le-mul_left d l in
                absurd (omega (arith, s, k, j))

    pub answer_is : (s : Solution) → AreSolved s i cuts columns weights → (answer : Weighed) → IsAnswer box.bounds d (margin_of s d) sums answer → IsWeighed i v cuts columns weights s answer
    answer_is Exact own (Whole counts) h = whole counts h.0 h.1
    answer_is Exact own (Between arc b) h = between own arc b h
    answer_is Exact own Other h = missed h
    answer_is Near own (Whole counts) h = near_whole i v cuts columns weights sound graph d common sums are counts h.0 h.1
    answer_is Near own (Between arc b) h = near_between i v cuts columns weights sound graph d common sums are box left own arc b h
    answer_is Near own Other h = near_missed i v cuts columns weights sound graph d common sums are box left h
