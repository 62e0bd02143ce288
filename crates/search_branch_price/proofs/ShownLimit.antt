-- A tree shows no more than the best roster costs, or one more than the greatest cost.
use Rattle.std.proofs.Common.{◌≡◌, ℕ, arith, ◌+◌, ◌≤◌, ◌⊎◌, inl, inr, Bool, Option, None, Some, IfSome, List, [], ◌∷◌, ◌++◌}
use Rattle.model_rosters.specs.declared.grammar.ArcKey.{ArcKey}
use Rattle.model_rosters.specs.declared.instance.Cut.{Cut}
use Rattle.model_rosters.specs.declared.instance.Instance.{Instance}
use Rattle.model_rosters.specs.Cuts.{lo, base_cuts}
use Rattle.model_rosters.specs.GreatestCost.{greatest_cost}
use Rattle.model_rosters.specs.SoundInstance.{IsSoundInstance}
use Rattle.model_rosters.specs.arc_laws.Counts.{AreCounts, counts_cost}
use Rattle.model_rosters.specs.arc_laws.Lists.{HoldsArcsOnce}
use Rattle.model_rosters.proofs.arc_laws.SameArc.{rising-once}
use Rattle.law_bounds.specs.Counted.{HaveCounts}
use Rattle.law_bounds.specs.Infeasible.{IsPlainlyInfeasible}
use Rattle.law_bounds.specs.Pinned.{IsPinnedValue}
use Rattle.law_bounds.proofs.Counted.{makes-roster}
use Rattle.law_bounds.proofs.TreeCosts.{trees_cost-le}
use Rattle.law_bounds.proofs.RosterTrees.{has-trees, stand-for}
use Rattle.law_bounds.proofs.SoundReady.{ready}
use Rattle.check_certificates.specs.Nodes.{low_cut}
use Rattle.check_certificates.specs.RosterCauses.{duties, stated_prices}
use Rattle.check_certificates.proofs.certificate_laws.ShownBound.{shows-le}
use Rattle.search_arc_counts.proofs.roster_split.BalancedLemmas.{split-balanced}
use Rattle.tree_graph.specs.Graphs.{GraphView, IsGraph}
use Rattle.tree_graph.proofs.PlacesLemmas.{of-graph}
use Rattle.check_certificates.specs.growing_laws.Grown.{Grown, tip, fork, Leaf, fresh, valued, fixed, Own, OnTips, OnForks, leaf_value, raised, proof_of, shown}
use Rattle.check_certificates.specs.growing_laws.States.{IsLeaf, IsOwn, IsSplit, IsTip, IsGrowing, OwnShows}
use Rattle.check_certificates.proofs.growing_laws.GrownLemmas.{tips-map, forks-map}
use Rattle.check_certificates.proofs.growing_laws.StatesLemmas.{growing-proves}
use Rattle.search_candidates.specs.declared.roster.Roster.{Roster}
use Rattle.search_candidates.specs.Rosters.{IsGoodRoster}
use Rattle.search_candidates.specs.Offers.{limit_of}
use Rattle.search_candidates.proofs.GraphCounts.{balanced-moved}
use Rattle.search_branch_price.proofs.SoundEnds.{nodes-sound}

-- where no leaf and no split shows more than u, neither does the tree
shown-at-most : (u above : ℕ) (cuts : List Cut) (t : Grown) → OnTips (λ up path k l. leaf_value l ≤ u) above cuts t
    → OnForks (λ path a b own. OwnShows u own) cuts t → shown t ≤ u
shown-at-most u above cuts (tip k l) h f = h
shown-at-most u above cuts (fork k a b None low high) h f =
    let p = shown-at-most u above (cuts ++ low_cut a b ∷ []) low h.0 f.1 in
    omega (arith, p)
shown-at-most u above cuts (fork k a b (Some o) low high) h f =
    let p = shown-at-most u (raised above (Some o)) (cuts ++ low_cut a b ∷ []) low h.0 f.1 in
    let q = f.0 in
    omega (arith, p, q)

module _ (i : Instance) (sound : IsSoundInstance i) (v : GraphView) (graph : IsGraph i.grammar v) where
  -- counts of a roster cost no more than the greatest cost
  counts-most : (cuts : List Cut) (x : ℕ) → IsPinnedValue i cuts x → x ≤ greatest_cost i + 1
  counts-most cuts x p = by p.value
    where
      by : (AreCounts i p.listed (lo cuts) × (x ≡ counts_cost i p.listed (lo cuts))) ⊎ ((AreCounts i p.listed (lo cuts) → ⊥) × (x ≡ greatest_cost i + 1))
          → x ≤ greatest_cost i + 1
      by (inr h) = let e = h.1 in omega (arith, e)
      by (inl h) =
          let moved = balanced-moved i.grammar v.arcs graph.arcs p.listed p.are (lo cuts) h.0.balanced in
          let trees = split-balanced i.grammar v.arcs sound.grammar graph.arcs (lo cuts) moved in
          let once : HoldsArcsOnce i.grammar p.listed = record { sound = p.are.sound; whole = p.are.whole; once = rising-once p.listed p.are.rising } in
          let have : HaveCounts i p.listed (lo cuts) trees.0 =
          record { day = trees.1.day; counts = λ a here. trees.1.counts a (of-graph i.grammar v.arcs graph.arcs a (p.are.sound a here)) } in
          let made = makes-roster i p.listed (lo cuts) trees.0 sound once h.0 have in
          let less = trees_cost-le i sound.grammar.ranks.0 sound.grammar.ranks.1 trees.0 made.roster in
          let cost = made.cost in
          let e = h.1 in
          omega (arith, less, cost, e)

  leaf-most : (limit : ℕ) (path : List Cut) (l : Leaf) → IsLeaf i limit path l → leaf_value l ≤ greatest_cost i + 1
  leaf-most limit path fresh h = omega arith
  leaf-most limit path (valued o) h = let e = h.0.value.value in omega (arith, e)
  leaf-most limit path (fixed x) h = counts-most path x h.1

  own-most : (strict : Bool) (low : ℕ) (path : List Cut) (a : ArcKey) (b : ℕ) (own : Option Own) → IsOwn i strict low path a b own → OwnShows (greatest_cost i + 1) own
  own-most strict low path a b None h = tt
  own-most strict low path a b (Some o) h = let e = h.0.value.value in omega (arith, e)

  module _ (busy : IsPlainlyInfeasible i → ⊥) (strict : Bool) (limit low n : ℕ) (t : Grown) (is : IsGrowing i strict limit low n t) where
    shown-most : shown t ≤ greatest_cost i + 1
    shown-most = shown-at-most (greatest_cost i + 1) 0 (base_cuts i) t
        (tips-map (IsTip i limit low n t) (λ up path k l. leaf_value l ≤ greatest_cost i + 1) (λ up path k l h. leaf-most limit path l h.leaf) 0 (base_cuts i) t is.tips)
        (forks-map (IsSplit i strict low) (λ path a b own. OwnShows (greatest_cost i + 1) own) (λ path a b own h. own-most strict low path a b own h.1) (base_cuts i) t is.forks)

    shown-cost : (r : Roster) → IsGoodRoster i r → shown t ≤ r.cost
    shown-cost r good =
        let ds = duties r.shifts in
        let ps = stated_prices r.shifts in
        let has = has-trees i (ready i sound) ds ps good.stated.roster in
        let stand = stand-for i (ready i sound) ds ps has.trees good.stated.roster has.each in
        let proof = growing-proves i strict limit low n t is in
        let le = shows-le i sound has.trees stand.roster busy (proof_of t) (base_cuts i) (shown t) (nodes-sound i sound strict limit low n t is) proof.tight stand.meets proof.shows in
        let cost = has.cost in
        let total = good.stated.total in
        omega (arith, le, cost, total)

    pub shown-limit : (best : Option Roster) → IfSome best (IsGoodRoster i) → shown t ≤ limit_of i best
    shown-limit None good = shown-most
    shown-limit (Some r) good = shown-cost r good
