-- Where a node with prices is split.
use Rattle.std.proofs.Common.{◌≡◌, ℕ, arith, ◌≤◌, ◌<◌, ◌^◌, List, [], ◌∷◌, ◌++◌, length, subst, ap, ◌∙◌, ◌⊎◌, inl, inr}
use Rattle.std.specs.Prelude.{slice_get}
use Rattle.model_rosters.specs.declared.grammar.ArcKey.{ArcKey}
use Rattle.model_rosters.specs.declared.instance.Cut.{Cut}
use Rattle.model_rosters.specs.declared.instance.Instance.{Instance}
use Rattle.model_rosters.specs.declared.instance.Prices.{Prices}
use Rattle.model_rosters.specs.Cuts.{Meets, base_cuts}
use Rattle.model_rosters.specs.Folds.{Each}
use Rattle.model_rosters.specs.SoundInstance.{IsSoundInstance}
use Rattle.model_rosters.specs.Trees.{Parts}
use Rattle.model_rosters.specs.arc_laws.Counts.{counts_cost}
use Rattle.model_rosters.specs.arc_laws.Lists.{AreArcs}
use Rattle.model_rosters.proofs.arc_laws.Totals.{arcs-once}
use Rattle.search_arc_counts.specs.count_boxes.Boxes.{BoxView}
use Rattle.search_arc_counts.specs.count_boxes.Paths.{IsBoxOf, IsLooseAt}
use Rattle.law_bounds.specs.Infeasible.{IsPlainlyInfeasible}
use Rattle.law_bounds.specs.Priced.{IsPricedValue}
use Rattle.law_bounds.specs.TreeRosters.{IsTreeRoster, trees_cost}
use Rattle.lp_fractions.specs.declared.frac.Frac.{Frac}
use Rattle.law_bounds.specs.linear_programs.Solution.{Weighted}
use Rattle.law_bounds.specs.master_laws.Laws.{IsBelowHeads}
use Rattle.law_bounds.specs.master_laws.Master.{MasterKey}
use Rattle.law_bounds.specs.master_laws.Sharp.{UsesArtificial, AreFine}
use Rattle.law_bounds.proofs.BaseCuts.{base-asks}
use Rattle.law_bounds.proofs.Counted.{makes-roster, meets-cuts}
use Rattle.law_bounds.proofs.OneValue.{one-priced}
use Rattle.law_bounds.proofs.master_laws.WholeCountsLemmas.{can_be_split}
use Rattle.law_bounds.specs.near_laws.NearSharp.{IsSharpFor, LackMuch, AreRosterCounts, AreNearlyWhole}
use Rattle.tree_graph.specs.Graphs.{GraphView, IsGraph}
use Rattle.tree_graph.proofs.PlacesLemmas.{in-graph, of-graph}
use Rattle.tree_graph.proofs.ArcOrderLemmas.{sorted-arcs}
use Rattle.tree_pool.specs.Pools.{PoolTree}
use Rattle.search_node_columns.specs.declared.weights.Weight.{Weight}
use Rattle.search_masters.specs.declared.ends.Solution.{Solution}
use Rattle.search_masters.specs.declared.ends.Solution.TheVariants.{Exact, Near}
use Rattle.search_masters.specs.Ends.{AreLeastWeights, AreSolved, IsBest, IsNear}
use Rattle.search_arc_counts.specs.roster_split.Counts.{count_of}
use Rattle.search_arc_weights.specs.declared.weighed.Weighed.TheVariants.{Whole, Between, Other}
use Rattle.search_arc_weights.specs.Weighed.{IsWeighed, AreWhole}
use Rattle.search_arc_weights.proofs.Steps.{get_some}
use Rattle.search_open_nodes.specs.declared.leaf.Plan.{Plan}
use Rattle.search_tree.specs.Trees.{IsPlan}
use Rattle.search_candidates.specs.Offers.{CanBeTrees, Reach}
use Rattle.search_primal.specs.declared.solved.Solved.{Solved}
use Rattle.search_primal.specs.Solutions.{IsSolvedBy, IsShown}
use Rattle.search_branch_price.specs.Plans.{IsPlanAt, IsPlanLeft}
use Rattle.search_branch_price.proofs.StepsLemmas.{mid-split, loose-bounds}

-- the weights of the node's solution
pub weights-of : (solution : Solution) (i : Instance) (cuts : List Cut) (pool : List PoolTree) (prices : Prices) (weights : List Weight)
    → IsSolvedBy solution i cuts pool prices weights → AreSolved solution i cuts pool weights
weights-of Exact i cuts pool prices weights how = how.1.weighted
weights-of Near i cuts pool prices weights how = (prices, how)

pub between-plan : (solution : Solution) (i : Instance) (v : GraphView) (cuts : List Cut) (pool : List PoolTree) (prices : Prices) (weights : List Weight) (arc b : ℕ) → IsGraph i.grammar v
    → IsSolvedBy solution i cuts pool prices weights → IsWeighed i v cuts pool weights solution (Between arc b) → IsPlan i v cuts prices (record { arc = arc; b = b })
between-plan Exact i v cuts pool prices weights arc b graph how between =
    let w = how.1.weighted in
    record {
      key = between.key;
      at = between.at;
      splits = record { arc = graph.arcs.sound arc between.key between.at; low = between.low; high = between.high };
      sharp = inl (w.trees ++ w.others, w.d, record { basic = w.basic; least = w.least; reason = inl (between.more w, between.less w) });
    }
between-plan Near i v cuts pool prices weights arc b graph how between = record {
  key = between.key;
  at = between.at;
  splits = record { arc = graph.arcs.sound arc between.key between.at; low = between.low; high = between.high };
  sharp = inr (how.trees, 2 ^ 56, record { positive = omega arith; trees = how.day; near = how.near; reason = inl (between.well prices how) });
}

-- each split of the node is sharp, or near-sharp for these prices
abbrev pub IsSharpAnywhere : Instance → List Cut → Prices → Type 0
IsSharpAnywhere i cuts prices = (a : ArcKey) (b : ℕ) → IsSharpFor i cuts prices a b

exact-anywhere : (i : Instance) (cuts : List Cut) (pool : List PoolTree) (prices : Prices) (weights : List Weight) → (w : AreLeastWeights i cuts pool weights)
    → UsesArtificial i cuts (w.trees ++ w.others) ⊎ AreFine (w.trees ++ w.others) w.d → IsSharpAnywhere i cuts prices
exact-anywhere i cuts pool prices weights w why = λ a b. inl (w.trees ++ w.others, w.d, record { basic = w.basic; least = w.least; reason = inr why })

near-anywhere : (i : Instance) (cuts : List Cut) (pool : List PoolTree) (prices : Prices) (weights : List Weight) → (near : IsNear i cuts pool prices weights)
    → LackMuch i cuts (2 ^ 56) near.trees ⊎ AreNearlyWhole i cuts prices (2 ^ 56) near.trees → IsSharpAnywhere i cuts prices
near-anywhere i cuts pool prices weights near why =
    λ a b. inr (near.trees, 2 ^ 56, record { positive = omega arith; trees = near.day; near = near.near; reason = inr why })

pub other-anywhere : (solution : Solution) (i : Instance) (v : GraphView) (cuts : List Cut) (pool : List PoolTree) (prices : Prices) (weights : List Weight)
    → IsSolvedBy solution i cuts pool prices weights → IsWeighed i v cuts pool weights solution Other → IsSharpAnywhere i cuts prices
other-anywhere Exact i v cuts pool prices weights how told = exact-anywhere i cuts pool prices weights how.1.weighted (told how.1.weighted)
other-anywhere Near i v cuts pool prices weights how told = near-anywhere i cuts pool prices weights how (inl (told prices how))

pub least-plan : (i : Instance) (v : GraphView) (cuts : List Cut) (prices : Prices) (loose : ℕ) (box : BoxView) (plan : Plan) → IsGraph i.grammar v
    → IsBoxOf i v cuts box → IsLooseAt i v cuts loose → IsPlanAt box loose plan → IsSharpAnywhere i cuts prices → IsPlan i v cuts prices plan
least-plan i v cuts prices loose box plan graph left is at sharp =
    let lt = loose-bounds i v cuts box left loose is in
    let e = at.least in
    record {
      key = is.0;
      at = ap (λ (n : ℕ). slice_get v.arcs n) at.same ∙ is.1;
      splits = mid-split i v cuts box left loose is graph is.0 plan.b is.1 (omega (arith, e)) (omega (arith, e, lt));
      sharp = sharp is.0 plan.b;
    }

-- a split of an arc to which the box leaves both halves
pub left-plan : (i : Instance) (v : GraphView) (cuts : List Cut) (prices : Prices) (box : BoxView) (plan : Plan) → IsGraph i.grammar v
    → IsBoxOf i v cuts box → IsPlanLeft box plan → IsSharpAnywhere i cuts prices → IsPlan i v cuts prices plan
left-plan i v cuts prices box plan graph left is sharp =
    let some = get_some v.arcs plan.arc (subst (λ (n : ℕ). plan.arc < n) left.made.arcs is.at) in
    let l = left.low plan.arc some.0 some.1 in
    let h = left.high plan.arc some.0 some.1 in
    let low = is.low in
    let high = is.high in
    let loose : IsLooseAt i v cuts plan.arc = (some.0, some.1, omega (arith, l, h, low, high)) in
    record {
      key = some.0;
      at = some.1;
      splits = mid-split i v cuts box left plan.arc loose graph some.0 plan.b some.1 low high;
      sharp = sharp some.0 plan.b;
    }

-- there is a count for each arc
pub whole-each : (solution : Solution) (i : Instance) (v : GraphView) (cuts : List Cut) (pool : List PoolTree) (weights : List Weight) (counts : List ℕ)
    → IsWeighed i v cuts pool weights solution (Whole counts) → length counts ≡ length v.arcs
whole-each Exact i v cuts pool weights counts told = told.each
whole-each Near i v cuts pool weights counts told = told.each

-- whole weights are counts of trees
whole-trees : (i : Instance) (v : GraphView) (cuts : List Cut) (pool : List PoolTree) (weights : List Weight) (counts : List ℕ) → IsSoundInstance i → IsGraph i.grammar v
    → AreLeastWeights i cuts pool weights → AreWhole i v cuts pool weights counts → CanBeTrees i v counts
whole-trees i v cuts pool weights counts sound graph w whole =
    let all = sorted-arcs i.grammar v.arcs (in-graph i.grammar v.arcs graph.arcs) (of-graph i.grammar v.arcs graph.arcs) in
    record {
      each = whole.each;
      listed = all.0;
      are = all.1;
      balanced = (can_be_split i cuts (w.trees ++ w.others) w.d all.0 (count_of v.arcs counts) sound (whole.whole w all.0 all.1)).balanced;
    }

front : (P : Cut → Type 0) (base more cuts : List Cut) → cuts ≡ base ++ more → Each P cuts → Each P base
front P base more cuts e h = by base (subst (λ (cs : List Cut). Each P cs) e h)
  where
    by : (xs : List Cut) → Each P (xs ++ more) → Each P xs
    by [] k = tt
    by (x ∷ xs) k = (k.0, by xs k.1)

-- trees with these counts close the node
whole-reach : (i : Instance) (v : GraphView) (cuts : List Cut) (pool : List PoolTree) (prices : Prices) (value : Frac) (weights : List Weight) (shown : ℕ) (counts : List ℕ) → IsGraph i.grammar v
    → (best : IsBest i cuts pool prices value weights) → IsPricedValue i prices cuts shown → Each (IsBelowHeads i) cuts → (more : List Cut) × (cuts ≡ base_cuts i ++ more)
    → AreWhole i v cuts pool weights counts → Reach i v counts cuts (best.weighted.trees ++ best.weighted.others) shown
whole-reach i v cuts pool prices value weights shown counts graph best is below based whole = λ ts have.
    let all = sorted-arcs i.grammar v.arcs (in-graph i.grammar v.arcs graph.arcs) (of-graph i.grammar v.arcs graph.arcs) in
    by ts (best.closes below all.0 (count_of v.arcs counts) ts shown (whole.whole best.weighted all.0 all.1) (have all.0 all.1) is)
  where
    by : (ts : List Parts)
        → UsesArtificial i cuts (best.weighted.trees ++ best.weighted.others) ⊎ (IsTreeRoster i ts × Each (Meets ts) cuts × (trees_cost i ts ≤ shown))
        → UsesArtificial i cuts (best.weighted.trees ++ best.weighted.others) ⊎ (IsTreeRoster i ts × Each (Meets ts) (base_cuts i) × (trees_cost i ts ≤ shown))
    by ts (inl u) = inl u
    by ts (inr h) = inr (h.0, front (Meets ts) (base_cuts i) based.0 cuts based.1 h.1, h.2)

-- what an offer of counts reaches
abbrev pub Reaches : Instance → GraphView → List ℕ → ℕ → Type 0
Reaches i v counts limit = CanBeTrees i v counts → (x : ℕ) (cuts : List Cut) (ws : List (Weighted MasterKey)) → Reach i v counts cuts ws x
    → UsesArtificial i cuts ws ⊎ (limit ≤ x)

-- where such counts were offered, prices that show less than the limit show less than their roster costs
offered-dearer : (i : Instance) (v : GraphView) (cuts : List Cut) (prices : Prices) (shown limit : ℕ) (counts : List ℕ) → IsSoundInstance i → (IsPlainlyInfeasible i → ⊥)
    → length counts ≡ length v.arcs → IsPricedValue i prices cuts shown → Reaches i v counts limit → shown < limit → (listed : List ArcKey) → AreArcs i.grammar listed
    → AreRosterCounts i listed (count_of v.arcs counts) → (other : ℕ) → IsPricedValue i prices cuts other → other < counts_cost i listed (count_of v.arcs counts)
offered-dearer i v cuts prices shown limit counts sound busy each is reaches lt listed arcs are other also =
    by (reaches (record { each = each; listed = listed; are = arcs; balanced = are.counts.balanced }) (counts_cost i listed value) [] [] reach)
  where
    value : ArcKey → ℕ
    value = count_of v.arcs counts

    reach : Reach i v counts [] [] (counts_cost i listed value)
    reach ts have =
        let once = arcs-once i.grammar listed arcs in
        let r = makes-roster i listed value ts sound once are.counts (have listed arcs) in
        inr (r.roster, meets-cuts i (base_cuts i) listed value ts once (have listed arcs) are.left (base-asks i sound busy), omega (arith, r.cost))

    by : UsesArtificial i [] [] ⊎ (limit ≤ counts_cost i listed value) → other < counts_cost i listed value
    by (inl u) = absurd u.2
    by (inr le) = let e = one-priced i prices cuts other shown also is in omega (arith, e, le, lt)

-- where the roster of whole weights was offered and some roster could still cost less, each split is sharp
pub whole-anywhere : (i : Instance) (v : GraphView) (cuts : List Cut) (pool : List PoolTree) (s : Solved) (shown limit : ℕ) (counts : List ℕ) → IsSoundInstance i → (IsPlainlyInfeasible i → ⊥) → IsGraph i.grammar v
    → IsShown i cuts pool s shown → IsWeighed i v cuts pool s.weights s.solution (Whole counts) → Reaches i v counts limit → shown < limit → IsSharpAnywhere i cuts s.prices
whole-anywhere i v cuts pool s shown limit counts sound busy graph is told reaches lt = by s.solution is.solved.how told
  where
    artificial : (ws : List (Weighted MasterKey)) → UsesArtificial i cuts ws ⊎ (limit ≤ shown) → UsesArtificial i cuts ws
    artificial ws (inl u) = u
    artificial ws (inr le) = absurd (omega (arith, le, lt))

    by : (solution : Solution) → IsSolvedBy solution i cuts pool s.prices s.weights → IsWeighed i v cuts pool s.weights solution (Whole counts) → IsSharpAnywhere i cuts s.prices
    by Exact how whole =
        let w = how.1.weighted in
        exact-anywhere i cuts pool s.prices s.weights w (inl (artificial (w.trees ++ w.others) (reaches (whole-trees i v cuts pool s.weights counts sound graph w whole) shown cuts (w.trees ++ w.others)
        (whole-reach i v cuts pool s.prices how.0 s.weights shown counts graph how.1 is.value is.below is.based whole))))
    by Near how whole = near-anywhere i cuts pool s.prices s.weights how (inr (record {
      value = count_of v.arcs counts;
      near = whole.whole s.prices how;
      dearer = offered-dearer i v cuts s.prices shown limit counts sound busy whole.each is.value reaches lt;
    }))
