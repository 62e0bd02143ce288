-- The Lagrangian value of prices at a list of cuts.
use Rattle.std.specs.Prelude.{ℕ, zero, suc, ℤ, pos, negsuc, neg_ℤ, ◌+ℤ◌, ◌*ℤ◌, ◌≡◌, ◌+◌, ◌-◌, ◌⊎◌, min, Option, None, Some, List}
use Rattle.std.specs.Int.{int_min}
use Rattle.model_rosters.specs.declared.instance.Cut.{Cut}
use Rattle.model_rosters.specs.declared.instance.Side.{Side}
use Rattle.model_rosters.specs.declared.instance.Side.TheVariants.{Low, High}
use Rattle.model_rosters.specs.declared.instance.Instance.{Instance}
use Rattle.model_rosters.specs.declared.instance.Prices.{Prices}
use Rattle.model_rosters.specs.Trees.{IsDayTree}
use Rattle.model_rosters.specs.Sums.{IsLeast, tree_sum}
use Rattle.model_rosters.specs.Folds.{sum_z}
use Rattle.model_rosters.specs.Coverage.{penalty}
use Rattle.model_rosters.specs.GreatestCost.{greatest_cost}
use Rattle.model_rosters.specs.Reduced.{CellPrice, CutPrice, cell_prices, cut_prices, reduced_view}
use Rattle.law_bounds.specs.Infeasible.{IsPlainlyInfeasible}

-- the least reduced cost of the day's trees, none where the day has no tree
pub record IsLeastReduced (i : Instance) (p : Prices) (cuts : List Cut) (z : Option ℤ) : Type 0 where
  pub least : IsLeast (IsDayTree i.grammar) (tree_sum (reduced_view i p cuts) 1) z

-- the least that a to b trees bring, each at least z; 0 where the day has no tree
abbrev pub trees_share : ℕ → ℕ → Option ℤ → ℤ
trees_share a b None = pos 0
trees_share a b (Some (pos z)) = pos a *ℤ pos z
trees_share a b (Some (negsuc z)) = pos b *ℤ negsuc z

-- the least of f a to f (a + n)
abbrev pub least_from : (ℕ → ℤ) → ℕ → ℕ → ℤ
least_from f a zero = f a
least_from f a (suc n) = int_min (least_from f a n) (f (a + suc n))

-- what n employees at a cell bring: the penalty, and the price for each
abbrev pub cell_at : ℕ → CellPrice → ℕ → ℤ
cell_at d p n = pos d *ℤ pos (penalty p.cell n) +ℤ p.price *ℤ pos n

-- the least that the cell brings, from its floor to the lesser of its ceiling and `most`
abbrev pub cell_share : ℕ → ℕ → CellPrice → ℤ
cell_share d most p = least_from (cell_at d p) p.cell.floor (min p.cell.ceiling most - p.cell.floor)

abbrev pub share_of : Side → ℤ → ℕ → ℤ
share_of Low m b = neg_ℤ (m *ℤ pos b)
share_of High m b = m *ℤ pos (b + 1)

-- what a cut with its multiplier brings at least
abbrev pub cut_share : CutPrice → ℤ
cut_share k = share_of k.cut.side k.mult k.cut.b

-- the trees', the cells' and the cuts' shares
abbrev pub lagrangian_sum : Instance → Prices → List Cut → Option ℤ → ℤ
lagrangian_sum i p cuts z =
    trees_share i.heads_min i.heads_max z
    +ℤ sum_z (cell_share p.d i.heads_max) (cell_prices i.cells p.cell)
    +ℤ sum_z cut_share (cut_prices 1 cuts p.mult)

-- that sum, or more than d times any roster's cost where the instance is plainly infeasible
pub record IsLagrangian (i : Instance) (p : Prices) (cuts : List Cut) (v : ℤ) : Type 0 where
  pub z : Option ℤ
  pub least : IsLeastReduced i p cuts z
  pub value : (IsPlainlyInfeasible i × (v ≡ pos p.d *ℤ pos (greatest_cost i + 1)))
      ⊎ ((IsPlainlyInfeasible i → ⊥) × (v ≡ lagrangian_sum i p cuts z))
