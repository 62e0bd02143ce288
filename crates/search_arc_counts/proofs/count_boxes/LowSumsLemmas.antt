-- One arc more of those whose least counts are summed.
use Rattle.std.proofs.Common.{◌≡◌, ℕ, ℤ, arith, ◌+◌, ◌*◌, ◌^◌, ◌≤◌, ◌<◌, List, [], ◌∷◌, ◌++◌, Some, All, length, get_or, take, refl, ap, sym, subst, add-one}
use Rattle.std.specs.Prelude.{slice_get}
use Rattle.std.proofs.Math.Seq.{take-suc}
use Rattle.std.proofs.lemmas.List.{length-take}
use Rattle.std.proofs.lemmas.Nat.{mul-le}
use Rattle.std.proofs.lemmas.Option.{slice_get-get_or}
use Rattle.model_rosters.specs.declared.grammar.ArcKey.{ArcKey}
use Rattle.model_rosters.specs.declared.grammar.Grammar.{Grammar}
use Rattle.model_rosters.specs.Folds.{sum_n}
use Rattle.model_rosters.specs.arc_laws.Counts.{top_cost}
use Rattle.model_rosters.proofs.arc_laws.FoldsLemmas.{sum_n-append}
use Rattle.tree_graph.specs.Graphs.{HasArcs}
use Rattle.check_parts.specs.pinned_part.Net.{IsCounted, IsNet, size_at}
use Rattle.tree_span_arcs.specs.Shapes.{IsSplit}
use Rattle.check_parts.proofs.pinned_part.NetLemmas.{net-step, net-small}
use Rattle.search_arc_counts.specs.declared.count_boxes.bounds.Bounds.{Bounds}
use Rattle.search_arc_counts.specs.count_boxes.Boxes.{bounds_at, IsSmall}
use Rattle.search_arc_counts.specs.count_boxes.Costs.{low_of}
use Rattle.search_arc_counts.proofs.count_boxes.LowLemmas.{low-at, low-small}
use Rattle.tree_span_arcs.proofs.ShapesLemmas.{arc-split}

module _ (g : Grammar) (arcs : List ArcKey) (has : HasArcs g arcs) (k : ℕ) (d : ArcKey) (lt : k < length arcs) where
  there : slice_get arcs k ≡ Some (get_or arcs k d)
  there = slice_get-get_or arcs k d lt

  -- the arc has the shape of one
  pub shaped-at : IsSplit g (get_or arcs k d)
  shaped-at = arc-split g (get_or arcs k d) (has.sound k (get_or arcs k d) there)

  more : take (k + 1) arcs ≡ take k arcs ++ get_or arcs k d ∷ []
  more = rw add-one (take-suc arcs k d lt)

  module _ (bounds : List Bounds) (same : length bounds ≡ length arcs) where
    value_is : low_of arcs bounds (get_or arcs k d) ≡ (bounds_at bounds k).low
    value_is = low-at arcs bounds same has.once k (get_or arcs k d) there

    -- its count comes to the numbers
    pub net-more : (old new : List ℤ) → IsNet g (take k arcs) (low_of arcs bounds) old → IsCounted g (get_or arcs k d) (bounds_at bounds k).low old new
        → IsNet g (take (k + 1) arcs) (low_of arcs bounds) new
    net-more old new net counted =
        subst (λ (xs : List ArcKey). IsNet g xs (low_of arcs bounds) new) (sym more)
        (net-step g (low_of arcs bounds) (take k arcs) (get_or arcs k d) old new net
        (subst (λ (n : ℕ). IsCounted g (get_or arcs k d) n old new) (sym value_is) counted))

    -- and what its rule costs to the sum
    pub paid-more : (cost x y : ℕ) → cost ≡ sum_n (λ a. low_of arcs bounds a * top_cost g a) (take k arcs) → x ≡ (bounds_at bounds k).low → y ≡ top_cost g (get_or arcs k d)
        → cost + x * y ≡ sum_n (λ a. low_of arcs bounds a * top_cost g a) (take (k + 1) arcs)
    paid-more cost x y is count price =
        let here : x * y ≡ low_of arcs bounds (get_or arcs k d) * top_cost g (get_or arcs k d) = rw (value_is, count, price) refl in
        let split = sum_n-append (λ a. low_of arcs bounds a * top_cost g a) (take k arcs) (get_or arcs k d ∷ []) in
        let all = ap (λ (xs : List ArcKey). sum_n (λ a. low_of arcs bounds a * top_cost g a) xs) more in
        omega (arith, is, here, split, all)

-- the numbers stay small
pub room-at : (g : Grammar) (arcs : List ArcKey) (bounds : List Bounds) (k : ℕ) (nodes : List ℤ) → All IsSmall bounds → length arcs ≤ 100000 → IsNet g (take k arcs) (low_of arcs bounds) nodes
    → (p : ℕ) → p < length nodes → size_at nodes p ≤ 2 ^ 50
room-at g arcs bounds k nodes small few net =
    net-small g (low_of arcs bounds) (low-small arcs bounds small) (take k arcs) nodes net (let l = length-take k arcs in omega (arith, l, few))

-- and so does the sum
pub within-more : (cost k x y : ℕ) → cost ≤ 640000 * k → x ≤ 64 → y ≤ 10000 → cost + x * y ≤ 640000 * (k + 1)
within-more cost k x y h a b = let m = mul-le x y 64 10000 a b in omega (arith, m, h)
