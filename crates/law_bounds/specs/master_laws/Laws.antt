-- What a master says of the prices, the rosters and the splits at its node.
use Rattle.std.specs.Prelude.{ℕ, ℤ, pos, ◌<◌, ◌≤◌, ◌+◌, ◌≡◌, ◌≤ℤ◌, ◌<ℤ◌, ◌+ℤ◌, ◌*ℤ◌, ◌^◌, ◌⊎◌, Option, Some, List, [], ◌∷◌, length}
use Rattle.model_rosters.specs.declared.grammar.ArcKey.{ArcKey}
use Rattle.model_rosters.specs.declared.instance.Cut.{Cut}
use Rattle.model_rosters.specs.declared.instance.Side.{Side}
use Rattle.model_rosters.specs.declared.instance.Side.TheVariants.{Low, High}
use Rattle.model_rosters.specs.declared.instance.Instance.{Instance}
use Rattle.model_rosters.specs.declared.instance.Prices.{Prices}
use Rattle.model_rosters.specs.Trees.{Parts, IsDayTree}
use Rattle.model_rosters.specs.Sums.{IsLeast, AtMost, Within, tree_sum}
use Rattle.model_rosters.specs.Folds.{Each}
use Rattle.model_rosters.specs.SoundInstance.{IsSoundInstance}
use Rattle.law_bounds.specs.linear_programs.Sums.{dot}
use Rattle.law_bounds.specs.linear_programs.Program.{IsSound, IsPricedOut, reduced}
use Rattle.law_bounds.specs.linear_programs.Solution.{Weighted, IsValue, cost_of}
use Rattle.law_bounds.specs.Infeasible.{IsPlainlyInfeasible}
use Rattle.law_bounds.specs.Lagrangian.{IsLagrangian}
use Rattle.law_bounds.specs.BestPrices.{IsRival, AreBest, loss}
use Rattle.law_bounds.specs.Priced.{IsPricedValue}
use Rattle.law_bounds.specs.TreeRosters.{trees_cost}
use Rattle.law_bounds.specs.Counted.{HaveCounts}
use Rattle.law_bounds.specs.master_laws.Rows.{rows_of, floor_rows, ceiling_rows, HoldsAt}
use Rattle.law_bounds.specs.master_laws.Master.{MasterKey, missing, beyond, tree, HasBeyond, master}
use Rattle.law_bounds.specs.master_laws.Sharp.{UsesArtificial}
use Rattle.law_bounds.specs.master_laws.Pricing.{row_view}
use Rattle.law_bounds.specs.master_laws.WholeCounts.{HasCounts, CanBeSplit, MeetNode}
use Rattle.law_bounds.specs.master_laws.Rounding.{numbers_from, first_head, AreRoundedFrom}

-- each row of a master has its unit column, and no right side is negative
abbrev pub MasterSound : Type 0
MasterSound = (i : Instance) (cuts : List Cut) → IsSound (master i cuts)

-- no rival's value is above the master's
abbrev pub RivalsShowLess : Type 0
RivalsShowLess =
    (i : Instance) (cuts : List Cut) (rival : Prices) (w v : ℤ) (q : ℕ) → IsSoundInstance i
    → (IsPlainlyInfeasible i → ⊥)
    → IsRival i rival cuts → IsLagrangian i rival cuts w → IsValue (master i cuts) v q
    → (w *ℤ pos q) ≤ℤ (v *ℤ pos rival.d)

-- prices of the rows that leave no column a negative reduced cost, and whose value is v / q
pub record ArePricesOf (i : Instance) (cuts : List Cut) (y : ℕ → ℤ) (kappa : ℤ) (v : ℤ) (q : ℕ) : Type 0 where
  pub positive : pos 0 <ℤ kappa
  pub priced : IsPricedOut (master i cuts) y kappa
  pub value : kappa *ℤ v ≡ dot (master i cuts).rows y (master i cuts).right *ℤ pos q

abbrev pub IsBelowHeads : Instance → Cut → Type 0
IsBelowHeads i c = c.b < i.heads_max

-- rounding takes at most the loss off the master's value
abbrev pub RoundedShowValue : Type 0
RoundedShowValue =
    (i : Instance) (cuts : List Cut) (y : ℕ → ℤ) (kappa : ℤ) (v : ℤ) (q : ℕ) (p : Prices) (t : Parts) (l : ℤ)
    → IsSoundInstance i → (IsPlainlyInfeasible i → ⊥)
    → IsDayTree i.grammar t → Each (IsBelowHeads i) cuts → ArePricesOf i cuts y kappa v q
    → AreRoundedFrom i cuts y kappa p → IsLagrangian i p cuts l
    → (v *ℤ pos p.d) ≤ℤ ((l +ℤ pos (loss i p cuts)) *ℤ pos q)

abbrev pub HasSign : Side → ℤ → Type 0
HasSign Low x = x ≤ℤ pos 0
HasSign High x = pos 0 ≤ℤ x

-- the numbers of cuts have the signs of their sides
abbrev pub HaveSigns : List Cut → List ℤ → Type 0
HaveSigns [] xs = Unit {0}
HaveSigns (c ∷ cs) [] = ⊥
HaveSigns (c ∷ cs) (x ∷ xs) = HasSign c.side x × HaveSigns cs xs

-- the prices of the cuts' rows have the signs of their sides
abbrev pub CutsHaveSigns : Type 0
CutsHaveSigns =
    (i : Instance) (cuts : List Cut) (y : ℕ → ℤ) (kappa : ℤ) → IsPricedOut (master i cuts) y kappa
    → HaveSigns cuts (numbers_from y (first_head i + 2) cuts)

-- rounded prices are the best ones
abbrev pub RoundedAreBest : Type 0
RoundedAreBest =
    (i : Instance) (cuts : List Cut) (y : ℕ → ℤ) (kappa : ℤ) (v : ℤ) (q : ℕ) (p : Prices) → IsSoundInstance i
    → (IsPlainlyInfeasible i → ⊥)
    → Each (IsBelowHeads i) cuts → IsValue (master i cuts) v q → ArePricesOf i cuts y kappa v q
    → AreRoundedFrom i cuts y kappa p → AreBest i p cuts

-- whole counts of a solution can be split into trees
abbrev pub CountsSplit : Type 0
CountsSplit =
    (i : Instance) (cuts : List Cut) (ws : List (Weighted MasterKey)) (q : ℕ) (listed : List ArcKey)
    (value : ArcKey → ℕ) → IsSoundInstance i
    → HasCounts i cuts ws q listed value → CanBeSplit i listed value

-- where the solution uses no artificial column, trees with its counts meet the node and cost no more
abbrev pub CountsMeet : Type 0
CountsMeet =
    (i : Instance) (cuts : List Cut) (ws : List (Weighted MasterKey)) (q : ℕ) (listed : List ArcKey)
    (value : ArcKey → ℕ) (ts : List Parts) → IsSoundInstance i
    → HasCounts i cuts ws q listed value → HaveCounts i listed value ts → UsesArtificial i cuts ws
    ⊎ MeetNode i cuts ws q ts

-- where the solution is one of least cost, they cost at most what the node's rounded prices show
abbrev pub CountsClose : Type 0
CountsClose =
    (i : Instance) (cuts : List Cut) (y : ℕ → ℤ) (kappa : ℤ) (v : ℤ) (q : ℕ) (p : Prices) (w : ℕ) (t : Parts)
    (ws : List (Weighted MasterKey)) (d : ℕ) (ts : List Parts)
    → IsSoundInstance i → (IsPlainlyInfeasible i → ⊥) → IsDayTree i.grammar t → Each (IsBelowHeads i) cuts
    → length cuts ≤ 1500 → 1 ≤ q → 1 ≤ d → 1 ≤ p.d
    → ArePricesOf i cuts y kappa v q → AreRoundedFrom i cuts y kappa p → IsPricedValue i p cuts w
    → cost_of (master i cuts).column ws *ℤ pos q ≡ v *ℤ pos d → MeetNode i cuts ws d ts → trees_cost i ts ≤ w

-- how many rows there are
abbrev pub RowCount : Type 0
RowCount = (i : Instance) (cuts : List Cut) → length (rows_of i cuts) ≡ length i.cells
    + length (floor_rows i.cells) + length (ceiling_rows i.cells) + 2 + length cuts

-- right sides, entries and costs are small, and no cost is negative
pub record AreSmall (i : Instance) (cuts : List Cut) : Type 0 where
  pub right : (r : ℕ) → (pos 0 ≤ℤ (master i cuts).right r) × ((master i cuts).right r ≤ℤ pos 64)
  pub entry : (k : MasterKey) (r : ℕ) → (master i cuts).belongs k
      → Within 1 (((master i cuts).column k).entry r)
  pub cost : (k : MasterKey) → (master i cuts).belongs k → (pos 0 ≤ℤ ((master i cuts).column k).cost)
      × (((master i cuts).column k).cost ≤ℤ pos (2 ^ 39))

abbrev pub SmallMaster : Type 0
SmallMaster = (i : Instance) (cuts : List Cut) → IsSoundInstance i → Each (λ (c : Cut). c.b ≤ 63) cuts
    → AreSmall i cuts

-- the sum of a tree at the prices of the rows
abbrev pub TreesPriced : Type 0
TreesPriced =
    (i : Instance) (cuts : List Cut) (y : ℕ → ℤ) (kappa : ℕ) (t : Parts) → IsDayTree i.grammar t
    → tree_sum (row_view i cuts y kappa) 1 t ≡ Some (reduced (master i cuts).rows y (pos kappa)
    ((master i cuts).column (tree t)) +ℤ y (first_head i) +ℤ y (first_head i + 1))

-- no column has a negative reduced cost where none of the rows' own has, and the least sum of the trees is at least the prices of the heads' rows
abbrev pub PricedOutBySums : Type 0
PricedOutBySums =
    (i : Instance) (cuts : List Cut) (y : ℕ → ℤ) (kappa : ℕ) (z : Option ℤ)
    → ((r : ℕ) → r < (master i cuts).rows
    → pos 0 ≤ℤ reduced (master i cuts).rows y (pos kappa) ((master i cuts).column (missing r)))
    → ((r : ℕ) → HoldsAt HasBeyond (rows_of i cuts) r
    → pos 0 ≤ℤ reduced (master i cuts).rows y (pos kappa) ((master i cuts).column (beyond r)))
    → IsLeast (IsDayTree i.grammar) (tree_sum (row_view i cuts y kappa) 1) z
    → AtMost (Some (y (first_head i) +ℤ y (first_head i + 1))) z
    → IsPricedOut (master i cuts) y (pos kappa)
