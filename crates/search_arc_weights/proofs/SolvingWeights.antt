-- Weights of trees that columns which are no trees complete to a solution of a master, and their sums.
use Rattle.std.proofs.Common.{◌≡◌, ℕ, suc, arith, ◌*◌, ◌/◌, ◌^◌, ◌≤◌, ◌<◌, List, [], ◌∷◌, ◌++◌, Some, sym, ap, ◌∙◌, Bool, true, false, cond}
use Rattle.std.specs.Prelude.{slice_get, slice_index}
use Rattle.std.proofs.Math.Nat.{mul-le-mul_left}
use Rattle.model_rosters.specs.declared.grammar.ArcKey.{ArcKey}
use Rattle.model_rosters.specs.declared.instance.Cut.{Cut}
use Rattle.model_rosters.specs.declared.instance.Instance.{Instance}
use Rattle.model_rosters.specs.declared.instance.Prices.{Prices}
use Rattle.model_rosters.specs.declared.instance.Side.{Side}
use Rattle.model_rosters.specs.declared.instance.Side.TheVariants.{Low, High}
use Rattle.model_rosters.specs.Arcs.{same_arc}
use Rattle.model_rosters.specs.Cuts.{hi, at_most}
use Rattle.model_rosters.specs.Folds.{Each}
use Rattle.model_rosters.specs.SoundInstance.{IsSoundInstance}
use Rattle.model_rosters.specs.Trees.{Parts}
use Rattle.tree_graph.specs.Graphs.{GraphView}
use Rattle.law_bounds.specs.linear_programs.Solution.{Weighted, IsSolution}
use Rattle.law_bounds.specs.master_laws.Rows.{Row, rows_of}
use Rattle.law_bounds.specs.master_laws.Master.{MasterKey, master}
use Rattle.law_bounds.specs.master_laws.Sharp.{arc_weight}
use Rattle.law_bounds.specs.near_laws.Completed.{is_exceeded, own_key, tree_columns, own_columns}
use Rattle.law_bounds.proofs.near_laws.CompletedLemmas.{completed_solves}
use Rattle.tree_pool.specs.Pools.{PoolTree}
use Rattle.search_node_columns.specs.declared.weights.Weight.{Weight}
use Rattle.search_node_columns.specs.Weights.{AreWeights}
use Rattle.search_masters.specs.declared.ends.Solution.{Solution}
use Rattle.search_masters.specs.declared.ends.Solution.TheVariants.{Exact, Near}
use Rattle.search_masters.specs.Ends.{IsOther, AreLeastWeights, IsNear, AreSolved}
use Rattle.search_arc_weights.specs.Denominators.{IsDenominator}
use Rattle.search_arc_weights.specs.Sums.{arc_units, AreInPool, AreSums}
use Rattle.search_arc_weights.specs.Choices.{HaveFew}
use Rattle.search_arc_weights.proofs.Steps.{get_some}
use Rattle.search_arc_weights.proofs.RowBounds.{heads_few, weight_few}
use Rattle.search_arc_weights.proofs.Units.{arc_units_is, others_none, arc_weight-append, cancel_le, few_units, room_of, in_pool}

-- weights of trees over d, and others that complete them to a solution
pub record AreSolving (i : Instance) (cuts : List Cut) (columns : List PoolTree) (weights : List Weight) : Type 0 where
  pub trees : List (Weighted MasterKey)
  pub others : List (Weighted MasterKey)
  pub d : ℕ
  pub are : AreWeights i.grammar columns d weights trees
  pub apart : Each (λ (w : Weighted MasterKey). IsOther w.key) others
  pub solution : IsSolution (master i cuts) (trees ++ others) d

pub own_apart : (q : ℕ) (ws : List (Weighted Parts)) (r : ℕ) (rows : List Row) → Each (λ (w : Weighted MasterKey). IsOther w.key) (own_columns q ws r rows)
own_apart q ws r [] = tt
own_apart q ws r (x ∷ rows) = (by (is_exceeded q ws x), own_apart q ws (suc r) rows)
  where
    by : (b : Bool) → IsOther (own_key b r)
    by true = tt
    by false = tt

module _ (i : Instance) (cuts : List Cut) (columns : List PoolTree) (weights : List Weight) where
  abbrev pub of_least : AreLeastWeights i cuts columns weights → AreSolving i cuts columns weights
  of_least w = record { trees = w.trees; others = w.others; d = w.d; are = w.are; apart = w.apart; solution = w.basic.solution }

  pub near_solution : (p : Prices) (w : IsNear i cuts columns p weights) → IsSolution (master i cuts) (tree_columns w.trees ++ own_columns (2 ^ 56) w.trees 0 (rows_of i cuts)) (2 ^ 56)
  near_solution p w = (completed_solves i cuts w.trees (2 ^ 56) (omega arith) w.day w.near.kept).solution

  abbrev pub of_near : (p : Prices) → IsNear i cuts columns p weights → AreSolving i cuts columns weights
  of_near p w = record {
    trees = tree_columns w.trees;
    others = own_columns (2 ^ 56) w.trees 0 (rows_of i cuts);
    d = 2 ^ 56;
    are = w.are;
    apart = own_apart (2 ^ 56) w.trees 0 (rows_of i cuts);
    solution = near_solution p w;
  }

  pub of_solved : (s : Solution) → AreSolved s i cuts columns weights → AreSolving i cuts columns weights
  of_solved Exact w = of_least w
  of_solved Near w = of_near w.0 w.1

hi_most : (most : ℕ) (cs : List Cut) (a : ArcKey) → hi most cs a ≤ most
hi_most most [] a = omega arith
hi_most most (c ∷ cs) a = by c.side c.b (same_arc c.arc a) (hi_most most cs a)
  where
    by : (s : Side) (b : ℕ) (t : Bool) → hi most cs a ≤ most → cond t (at_most s b (hi most cs a)) (hi most cs a) ≤ most
    by s b false h = h
    by Low b true h = omega (arith, h)
    by High b true h = h

module _ (i : Instance) (v : GraphView) (cuts : List Cut) (columns : List PoolTree) (weights : List Weight)
    (sound : IsSoundInstance i) (d : ℕ) (common : IsDenominator weights d) (r : AreSolving i cuts columns weights) where
  -- the others have no arcs
  pub all_is : (a : ArcKey) → arc_weight a (r.trees ++ r.others) ≡ arc_weight a r.trees
  all_is a = arc_weight-append a r.trees r.others ∙ (let n = others_none a r.others r.apart in omega (arith, n))

  -- sums are weights over d
  weight_is : (a : ArcKey) → r.d * arc_units d columns a weights ≡ d * arc_weight a (r.trees ++ r.others)
  weight_is a =
      let e = arc_units_is i.grammar columns r.d r.solution.positive d a weights r.trees r.are common.over in
      e ∙ ap (λ (n : ℕ). d * n) (sym (all_is a))

  pub weight_most : (a : ArcKey) → arc_weight a (r.trees ++ r.others) ≤ r.d * hi i.heads_max cuts a
  weight_most a = weight_few i cuts (r.trees ++ r.others) r.d r.solution sound a

  pub pool_is : AreInPool d columns weights
  pool_is = in_pool i.grammar columns r.d r.solution.positive d i.heads_max common.few sound.few r.others weights r.trees r.are common.over (heads_few i cuts (r.trees ++ r.others) r.d r.solution)

  units_few : (a : ArcKey) → arc_units d columns a weights ≤ d * i.heads_max
  units_few a =
      let l = mul-le-mul_left r.d (hi_most i.heads_max cuts a) in
      few_units i.grammar columns r.d r.solution.positive d i.heads_max common.few sound.few (arc_units d columns a weights) (arc_weight a (r.trees ++ r.others)) (weight_is a) (omega (arith, weight_most a, l))

  pub room_is : (p : ℕ) (a : ArcKey) → slice_get v.arcs p ≡ Some a → arc_units d columns a weights < 2 ^ 128
  room_is p a e = room_of i.grammar columns r.d r.solution.positive d i.heads_max common.few sound.few (arc_units d columns a weights) (units_few a)

  module _ (sums : List ℕ) (are : AreSums d v.arcs columns weights sums) where
    pub few_is : HaveFew d sums
    few_is p h =
        let a = get_some v.arcs p (omega (arith, are.each, h)) in
        let u = units_few a.0 in
        let s = are.are p a.0 a.1 in
        quotient_few (slice_index sums p) (omega (arith, s, u)) sound.few
      where
        quotient_few : (s : ℕ) → s ≤ d * i.heads_max → i.heads_max ≤ 64 → s / d ≤ 64
        quotient_few s l f =
            let n : d * (s / d) ≤ d * i.heads_max = omega (arith, l) in
            omega (arith, cancel_le d (s / d) i.heads_max common.some n, f)

    pub sum_is : (p : ℕ) (a : ArcKey) → slice_get v.arcs p ≡ Some a → r.d * slice_index sums p ≡ d * arc_weight a (r.trees ++ r.others)
    sum_is p a e = ap (λ (n : ℕ). r.d * n) (are.are p a e) ∙ weight_is a
