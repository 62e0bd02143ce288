-- How the master of a node ends.
use Rattle.std.proofs.Common.{true≢false, ◌≡◌, ℕ, ℤ, arith, pos, neg_ℤ, ◌+ℤ◌, ◌*ℤ◌, ◌<ℤ◌, ◌≤ℤ◌, ◌^◌, ◌<◌, ◌≤◌, unsigned_abs, List, [], ◌∷◌, ◌++◌, length, sym, ap, subst, ◌∙◌, ◌⊎◌, inl, inr, IfOk}
use Rattle.std.specs.Prelude.{Bool, Option, None, Some, IfSome, Result, Ok, Err, All}
use Rattle.std.proofs.lemmas.List.Elements.{All-nil, All-cons}
use Rattle.std.proofs.lemmas.Option.{slice_get_within}
use Rattle.std.proofs.lemmas.Int.{ints}
use lib.IntN.{*ℤ_comm}
use Rattle.model_rosters.specs.declared.grammar.Grammar.{Grammar}
use Rattle.model_rosters.specs.declared.instance.Cut.{Cut}
use Rattle.model_rosters.specs.declared.instance.Instance.{Instance}
use Rattle.model_rosters.specs.declared.instance.Mult.{Mult}
use Rattle.model_rosters.specs.declared.instance.Prices.{Prices}
use Rattle.model_rosters.specs.declared.memory.Memory.{Memory as MemoryLack}
use Rattle.model_rosters.specs.Cuts.{Meets}
use Rattle.model_rosters.specs.Folds.{Each}
use Rattle.model_rosters.specs.PriceLimits.{FitPrices}
use Rattle.model_rosters.specs.SoundInstance.{IsSoundInstance}
use Rattle.model_rosters.specs.Trees.{Parts, IsDayTree}
use Rattle.model_rosters.proofs.CostBounds.{cells-le}
use Rattle.law_bounds.specs.linear_programs.Program.{Program, IsPricedOut}
use Rattle.law_bounds.specs.linear_programs.Solution.{Weighted, IsSolution, IsValue, IsBasic, CostsLeast, cost_of}
use Rattle.law_bounds.specs.linear_programs.Tableau.{HasWidePath, on_basis}
use Rattle.law_bounds.proofs.linear_programs.Orders.{times_le, times_swap, le_factor}
use Rattle.law_bounds.proofs.linear_programs.Paths.{path_tied}
use Rattle.law_bounds.proofs.linear_programs.Solutions.{natural}
use Rattle.lp_fractions.specs.declared.frac.Frac.{Frac}
use Rattle.lp_fractions.specs.Range.{Counts}
use Rattle.lp_fractions.specs.Row.{at}
use Rattle.law_bounds.specs.BestPrices.{loss}
use Rattle.law_bounds.specs.Infeasible.{IsPlainlyInfeasible}
use Rattle.law_bounds.specs.Lagrangian.{IsLagrangian}
use Rattle.law_bounds.specs.Priced.{IsPricedValue}
use Rattle.law_bounds.specs.TreeRosters.{IsTreeRoster, trees_cost}
use Rattle.model_rosters.specs.Limits.{IsSmallCut}
use Rattle.law_bounds.specs.master_laws.Rows.{rows_of}
use Rattle.law_bounds.specs.master_laws.Master.{MasterKey, missing, beyond, tree, master}
use Rattle.law_bounds.specs.master_laws.Ends.{IsPathEnd, tree_weights, other_weights, other_first}
use Rattle.law_bounds.specs.master_laws.Laws.{AreSmall, IsBelowHeads, ArePricesOf}
use Rattle.law_bounds.specs.master_laws.Rounding.{AreRoundedFrom}
use Rattle.law_bounds.specs.master_laws.Sharp.{UsesArtificial}
use Rattle.law_bounds.specs.master_laws.WholeCounts.{MeetNode}
use Rattle.law_bounds.proofs.master_laws.BestPrices.{are_best, counts_close}
use Rattle.law_bounds.proofs.master_laws.Ends.{path_end, weights_apart}
use Rattle.law_bounds.proofs.master_laws.Rivals.{rivals_less}
use Rattle.law_bounds.proofs.master_laws.RoundedValue.{rounded_value}
use Rattle.law_bounds.proofs.master_laws.RowSums.{master_sound}
use Rattle.law_bounds.proofs.master_laws.RowSizes.{row_count, small}
use Rattle.law_bounds.proofs.master_laws.WholeCountsLemmas.{meet_node}
use Rattle.lp_tableaus.specs.declared.simplex.Basic.{Basic}
use Rattle.lp_tableaus.specs.declared.simplex.LpFault.{LpFault}
use Rattle.lp_tableaus.specs.declared.simplex.LpFault.TheVariants.{Wide as LpWide, Spent as LpSpent, Memory as LpMemory, Stopped as LpStopped}
use Rattle.lp_tableaus.specs.Ends.{AreBasicWeights, IsLpEnd, EndsLp, HasLargeColumn}
use Rattle.lp_tableaus.specs.Risen.{HasRisen}
use Rattle.lp_tableaus.proofs.Counts.{refused_risen, spent_risen}
use Rattle.tree_pool.specs.Pools.{PoolTree}
use Rattle.search_node_columns.specs.declared.workspace.Held.{Held}
use Rattle.search_node_columns.specs.declared.weights.Weight.{Weight}
use Rattle.search_node_columns.specs.Columns.{HasKey}
use Rattle.search_node_columns.specs.Priced.{AreNarrowPrices}
use Rattle.search_node_columns.specs.Weights.{AreTreeWeights, KeysStandOnce}
use Rattle.search_masters.specs.declared.ends.NodeEnd.{NodeEnd}
use Rattle.search_masters.specs.Counted.{IsCounted}
use Rattle.search_masters.specs.Ends.{IsNodeCut, FitNode, AreLawful, EndsRight, IsFailedBy, IsOther, IsBest, ClosesWhole}
use Rattle.search_masters.proofs.BasicColumns.{basis_once}
use Rattle.lp_master_rows.proofs.AddedRows.{floors-le, ceilings-le}

-- a solution of least cost has the program's value
least_value : {K : Type 0} (p : Program K) (v : ℤ) (q : ℕ) (ws : List (Weighted K)) (d : ℕ) → IsValue p v q → IsSolution p ws d → CostsLeast p ws d
    → cost_of p.column ws *ℤ pos q ≡ v *ℤ pos d
least_value {K} p v q ws d value solution least =
    let r = value.reached in
    let x = r.0 in
    let e = r.1 in
    let a = value.least ws d solution in
    let b = times_le (cost_of p.column ws *ℤ pos e) (cost_of p.column x *ℤ pos d) q (least x e r.2) in
    let s1 = times_swap (cost_of p.column ws) e q in
    let s2 = times_swap (cost_of p.column x) d q in
    let s3 : (cost_of p.column x *ℤ pos q) *ℤ pos d ≡ (v *ℤ pos e) *ℤ pos d = ap (λ (z : ℤ). z *ℤ pos d) r.3 in
    let s4 = times_swap v e d in
    let c1 = *ℤ_comm (pos e) (cost_of p.column ws *ℤ pos q) in
    let c2 = *ℤ_comm (pos e) (v *ℤ pos d) in
    let positive : pos 0 <ℤ pos e = let h = r.2.positive in omega (arith, ints) in
    let l = le_factor (pos e) (cost_of p.column ws *ℤ pos q) (v *ℤ pos d) positive (omega (arith, ints)) in
    omega (arith, ints)

module _ (i : Instance) (cuts : List Cut) (listed : ℕ → MasterKey → Type 0) (basic : List Basic) (y : List ℤ) (kappa : ℤ) (value : Frac) (end : IsLpEnd (master i cuts) listed basic y kappa value) where
  den_is : pos 0 <ℤ value.den → pos (unsigned_abs value.den) ≡ value.den
  den_is h = natural value.den (omega (arith, ints))

  path : pos 0 <ℤ value.den → IsPathEnd i cuts end.tableau value.num (unsigned_abs value.den)
  path h = let e = den_is h in path_end i cuts end.steps end.tableau end.path end.out value.num (unsigned_abs value.den) (omega (arith, ints)) (end.worth ∙ ap (λ (z : ℤ). end.tableau.value *ℤ z) (sym e))

  pub value_is : pos 0 <ℤ value.den → IsValue (master i cuts) value.num (unsigned_abs value.den)
  value_is h = (path h).value

  pub shown : pos 0 <ℤ value.den → (prices : Prices) (t : Parts) → IsSoundInstance i → (IsPlainlyInfeasible i → ⊥) → IsDayTree i.grammar t → AreRoundedFrom i cuts (at y) kappa prices
      → Each (IsBelowHeads i) cuts → (l : ℤ) → IsLagrangian i prices cuts l → (value.num *ℤ pos prices.d) ≤ℤ ((l +ℤ pos (loss i prices cuts)) *ℤ value.den)
  shown h prices t sound busy day rounded below l lag =
      let p = (path h).prices in
      let p1 = subst (λ (k : ℤ). ArePricesOf i cuts end.tableau.y k value.num (unsigned_abs value.den)) end.scale p in
      let p2 = subst (λ (v : ℕ → ℤ). ArePricesOf i cuts v kappa value.num (unsigned_abs value.den)) end.prices p1 in
      let r = rounded_value i cuts (at y) kappa value.num (unsigned_abs value.den) prices t l sound busy day below p2 rounded lag in
      rw (den_is h) at r

  pub prices_of : pos 0 <ℤ value.den → ArePricesOf i cuts (at y) kappa value.num (unsigned_abs value.den)
  prices_of h =
      let p1 = subst (λ (k : ℤ). ArePricesOf i cuts end.tableau.y k value.num (unsigned_abs value.den)) end.scale (path h).prices in
      subst (λ (v : ℕ → ℤ). ArePricesOf i cuts v kappa value.num (unsigned_abs value.den)) end.prices p1

  -- no column is basic twice
  pub once : KeysStandOnce (on_basis end.tableau.basis end.weight (master i cuts).rows)
  once = basis_once (master i cuts) end.tableau (path_tied (master i cuts) (master_sound i (rows_of i cuts)) end.steps end.tableau end.path) end.weight (master i cuts).rows (omega arith)

  abbrev pub weighted : List (Weighted MasterKey)
  weighted = on_basis end.tableau.basis end.weight (master i cuts).rows

  -- trees first, the other columns behind
  pub sorted : pos 0 <ℤ value.den → IsBasic (master i cuts) (tree_weights weighted ++ other_weights weighted) end.d × CostsLeast (master i cuts) (tree_weights weighted ++ other_weights weighted) end.d
  sorted h =
      weights_apart i cuts weighted end.d ((path h).basic end.weight end.d end.solution) ((path h).least end.weight end.d end.solution)

  pub closes : pos 0 <ℤ value.den → (p : Prices) (t : Parts) → IsSoundInstance i → (IsPlainlyInfeasible i → ⊥) → IsDayTree i.grammar t → length cuts ≤ 1500
      → Each (IsBelowHeads i) cuts → AreRoundedFrom i cuts (at y) kappa p → FitPrices i p.d p.cell p.mult cuts
      → ClosesWhole i cuts p (tree_weights weighted ++ other_weights weighted) end.d
  closes h p t sound busy day few below rounded fit = λ arcs value' ts shown has have is.
      let s = sorted h in
      let ws = tree_weights weighted ++ other_weights weighted in
      let cost = least_value (master i cuts) value.num (unsigned_abs value.den) ws end.d (value_is h) s.0.solution s.1 in
      by ts shown is (meet_node i cuts ws end.d arcs value' sound has ts have) cost s.0.solution.positive
    where
      by : (ts : List Parts) (shown : ℕ) → IsPricedValue i p cuts shown
          → UsesArtificial i cuts (tree_weights weighted ++ other_weights weighted) ⊎ MeetNode i cuts (tree_weights weighted ++ other_weights weighted) end.d ts
          → cost_of (master i cuts).column (tree_weights weighted ++ other_weights weighted) *ℤ pos (unsigned_abs value.den) ≡ value.num *ℤ pos end.d → 0 < end.d
          → UsesArtificial i cuts (tree_weights weighted ++ other_weights weighted) ⊎ (IsTreeRoster i ts × Each (Meets ts) cuts × (trees_cost i ts ≤ shown))
      by ts shown is (inl u) cost some = inl u
      by ts shown is (inr m) cost some =
          let e = den_is h in
          inr (
            m.roster,
            m.meets,
            counts_close i cuts (at y) kappa value.num (unsigned_abs value.den) p shown t (tree_weights weighted ++ other_weights weighted) end.d ts
                sound busy day below few (omega (arith, ints)) (omega arith) fit.positive (prices_of h) rounded is cost m,
          )

pub few_rows : (i : Instance) (cuts : List Cut) → IsSoundInstance i → length cuts < 2 ^ 31 → length (rows_of i cuts) < 2 ^ 32
few_rows i cuts sound few = omega (arith, row_count i cuts, floors-le i.cells, ceilings-le i.cells, cells-le i sound)

-- ---- kappa
pub kappa_some : (i : Instance) (cuts : List Cut) (Listed : ℕ → MasterKey → Type 0) (basic : List Basic) (y : List ℤ) (kappa : ℤ) (value : Frac) → IsLpEnd (master i cuts) Listed basic y kappa value → pos 0 <ℤ kappa
kappa_some i cuts Listed basic y kappa value end =
    subst (λ (k : ℤ). pos 0 <ℤ k) end.scale (path_tied (master i cuts) (master_sound i (rows_of i cuts)) end.steps end.tableau end.path).kappa

-- ---- a program that was given up
small_cuts : (i : Instance) (cuts : List Cut) → Each (IsNodeCut i) cuts → Each (λ (c : Cut). c.b ≤ 63) cuts
small_cuts i [] h = tt
small_cuts i (c ∷ cs) h = (h.0.few, small_cuts i cs h.1)

not_large : (i : Instance) (cuts : List Cut) (Listed : ℕ → MasterKey → Type 0) → AreSmall i cuts → ((j : ℕ) (k : MasterKey) → Listed j k → (master i cuts).belongs k) → HasLargeColumn (master i cuts) Listed → ⊥
not_large i cuts Listed small belongs h = by h.0 h.1 h.2 h.3
  where
    by : (j : ℕ) (k : MasterKey) → Listed j k → (((r : ℕ) × (r < length (rows_of i cuts)) × (1 < unsigned_abs (((master i cuts).column k).entry r))) ⊎ (pos (2 ^ 39) <ℤ ((master i cuts).column k).cost)) → ⊥
    by j k l (inl e) = let w = small.entry k e.0 (belongs j k l) in plain (((master i cuts).column k).entry e.0) w.low w.high e.2
      where
        plain : (z : ℤ) → neg_ℤ (pos 1) ≤ℤ z → z ≤ℤ pos 1 → 1 < unsigned_abs z → ⊥
        plain z a b c = omega (arith, ints)
    by j k l (inr e) = let w = small.cost k (belongs j k l) in omega (arith, ints, w.1)

pub given_up : (i : Instance) (cuts : List Cut) (Listed : ℕ → MasterKey → Type 0) (pool : List PoolTree) (calm : Bool) (old new : Counts) (fault : LpFault) (r : Result NodeEnd MemoryLack)
    → IsSoundInstance i → Each (IsNodeCut i) cuts → length (rows_of i cuts) ≤ 1500 → ((j : ℕ) (k : MasterKey) → Listed j k → (master i cuts).belongs k)
    → EndsLp (master i cuts) Listed calm 5000 old new fault → IsFailedBy fault r
    → IfOk r (λ (end : NodeEnd). (a b : Counts) → IsCounted end a b → EndsRight i cuts pool a b calm end)
given_up i cuts Listed pool calm old new (LpWide f) r sound node few belongs h e = rw e (λ a b is. (few, refused_risen a b is, by h.1))
  where
    by : HasWidePath (master i cuts) ⊎ HasLargeColumn (master i cuts) Listed → HasWidePath (master i cuts)
    by (inl w) = w
    by (inr l) = absurd (not_large i cuts Listed (small i sound cuts (small_cuts i cuts node)) belongs l)
given_up i cuts Listed pool calm old new (LpSpent n) r sound node few belongs h e = rw e (λ a b is. (few, h.0, spent_risen a b is, h.2))
given_up i cuts Listed pool calm old new LpMemory (Ok x) sound node few belongs h e = absurd (true≢false (sym e))
given_up i cuts Listed pool calm old new LpMemory (Err x) sound node few belongs h e = tt
given_up i cuts Listed pool calm old new LpStopped r sound node few belongs h e = rw e (λ a b is. (h, is, tt))

-- ---- prices where it was stopped
pub lawful : (i : Instance) (cuts : List Cut) (own : Option Prices) → length (rows_of i cuts) ≤ 1500 → IfSome own (FitNode i cuts) → IfSome own (AreLawful i cuts)
lawful i cuts None few h = tt
lawful i cuts (Some p) few h = record { few = few; fit = h }

-- ---- counts
pub rises : (a b c : ℕ) → a ≤ b → HasRisen b c → HasRisen a c
rises a b c h (inl l) = inl (omega arith)
rises a b c h (inr e) = inr e

-- ---- the answer
others_apart : (ws : List (Weighted MasterKey)) → Each (λ (w : Weighted MasterKey). IsOther w.key) (other_weights ws)
others_apart [] = tt
others_apart (w ∷ ws) = by w.key w.weight (others_apart ws)
  where
    by : (k : MasterKey) (n : ℕ) → Each (λ (w : Weighted MasterKey). IsOther w.key) (other_weights ws) → Each (λ (w : Weighted MasterKey). IsOther w.key) (other_first k n (other_weights ws))
    by (missing r) n h = (tt, h)
    by (beyond r) n h = (tt, h)
    by (tree t) n h = h

pub best_end : (i : Instance) (cuts : List Cut) (Listed : ℕ → MasterKey → Type 0) (basic : List Basic) (y : List ℤ) (kappa : ℤ) (value : Frac) (pool : List PoolTree) (weights : List Weight) (p : Prices) (t : Parts)
    → IsSoundInstance i → (IsPlainlyInfeasible i → ⊥) → IsDayTree i.grammar t → length cuts ≤ 1500 → pos 0 <ℤ value.den → IsLpEnd (master i cuts) Listed basic y kappa value
    → AreTreeWeights i.grammar Listed pool basic weights → AreRoundedFrom i cuts (at y) kappa p → FitPrices i p.d p.cell p.mult cuts → Each (λ (m : Mult). pos 0 <ℤ m.value) p.mult
    → IsBest i cuts pool p value weights
best_end i cuts Listed basic y kappa value pool weights p t sound busy day few den end trees rounded fit above =
    let s = sorted i cuts Listed basic y kappa value end den in
    let ws = weighted i cuts Listed basic y kappa value end in
    let told = trees end.d ws end.solution.positive end.weights in
    record {
      fit = fit;
      positive = above;
      value_is = value_is i cuts Listed basic y kappa value end den;
      shown = λ below l lag. shown i cuts Listed basic y kappa value end den p t sound busy day rounded below l lag;
      rivals = λ rival l is lag. rw (den_is i cuts Listed basic y kappa value end den) at (rivals_less i cuts rival l value.num (unsigned_abs value.den) sound busy is lag (value_is i cuts Listed basic y kappa value end den));
      best = λ below.
          are_best i cuts (at y) kappa value.num (unsigned_abs value.den) p sound busy below (value_is i cuts Listed basic y kappa value end den) (prices_of i cuts Listed basic y kappa value end den) rounded;
      weighted = record { trees = tree_weights ws; others = other_weights ws; d = end.d; are = told.0; once = told.1 (once i cuts Listed basic y kappa value end); apart = others_apart ws; basic = s.0; least = s.1 };
      closes = λ below. closes i cuts Listed basic y kappa value end den p t sound busy day few below rounded fit;
    }

-- ---- the basic columns are listed
pub basics_below : (g : Grammar) (pool : List PoolTree) (held : List Held) (d : ℕ) (bs : List Basic) (ws : List (Weighted MasterKey)) → AreBasicWeights (HasKey g pool held) d bs ws
    → All (λ (b : Basic). b.col < length held) bs
basics_below g pool held d [] [] h = All-nil _
basics_below g pool held d [] (w ∷ ws) h = absurd h
basics_below g pool held d (b ∷ bs) [] h = absurd h
basics_below g pool held d (b ∷ bs) (w ∷ ws) h =
    All-cons (λ (b : Basic). b.col < length held) b bs (let k = h.0.column in slice_get_within held b.col k.one k.at) (basics_below g pool held d bs ws h.1)

pub small_path : (i : Instance) (cuts : List Cut) → Each (IsNodeCut i) cuts → Each IsSmallCut cuts
small_path i [] h = tt
small_path i (c ∷ cs) h = (h.0.few, small_path i cs h.1)

pub narrow_end : (i : Instance) (cuts : List Cut) (Listed : ℕ → MasterKey → Type 0) (basic : List Basic) (y : List ℤ) (kappa : ℤ) (value : Frac) → IsLpEnd (master i cuts) Listed basic y kappa value
    → AreNarrowPrices y kappa
narrow_end i cuts Listed basic y kappa value end = record { prices = end.narrow.0; some = kappa_some i cuts Listed basic y kappa value end; few = end.narrow.1 }

pub out_end : (i : Instance) (cuts : List Cut) (Listed : ℕ → MasterKey → Type 0) (basic : List Basic) (y : List ℤ) (kappa : ℤ) (value : Frac) → IsLpEnd (master i cuts) Listed basic y kappa value
    → IsPricedOut (master i cuts) (at y) kappa
out_end i cuts Listed basic y kappa value end =
    subst (λ (k : ℤ). IsPricedOut (master i cuts) (at y) k) end.scale (subst (λ (v : ℕ → ℤ). IsPricedOut (master i cuts) v end.tableau.kappa) end.prices end.out)

-- the answer over a pool by another name
pub best_of : (i : Instance) (cuts : List Cut) (new old : List PoolTree) (p : Prices) (value : Frac) (weights : List Weight) → new ≡ old → IsBest i cuts old p value weights → IsBest i cuts new p value weights
best_of i cuts new old p value weights e h = subst (λ (pool : List PoolTree). IsBest i cuts pool p value weights) (sym e) h
