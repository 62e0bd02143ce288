-- Counts of arcs and the trees that have them, as rosters of trees that meet cuts.
use Rattle.std.specs.Prelude.{ℕ, pos, ◌≡◌, ◌≤◌, ◌-ℤ◌, ◌+ℤ◌, ◌*ℤ◌, Some, List}
use Rattle.model_rosters.specs.declared.grammar.ArcKey.{ArcKey}
use Rattle.model_rosters.specs.declared.instance.Cut.{Cut}
use Rattle.model_rosters.specs.declared.instance.Instance.{Instance}
use Rattle.model_rosters.specs.declared.instance.Prices.{Prices}
use Rattle.model_rosters.specs.declared.instance.Side.TheVariants.{High}
use Rattle.model_rosters.specs.Trees.{Parts, IsDayTree}
use Rattle.model_rosters.specs.Sums.{tree_sum}
use Rattle.model_rosters.specs.Folds.{sum_z, Each, In}
use Rattle.model_rosters.specs.Arcs.{letters, arcs, cost, IsArc}
use Rattle.model_rosters.specs.Cuts.{arc_count, Meets, lo, hi, base_cuts}
use Rattle.model_rosters.specs.Reduced.{cell_prices, cut_prices, letter_price, arc_price, reduced_view}
use Rattle.model_rosters.specs.SoundInstance.{IsSoundInstance}
use Rattle.model_rosters.specs.arc_laws.Counts.{AreCounts, counts_cost}
use Rattle.model_rosters.specs.arc_laws.Lists.{HoldsArcsOnce}
use Rattle.law_bounds.specs.Infeasible.{IsPlainlyInfeasible}
use Rattle.law_bounds.specs.TreeRosters.{IsTreeRoster, trees_cost}

-- so many of these trees of the day have each arc
pub record HaveCounts (i : Instance) (listed : List ArcKey) (value : ArcKey → ℕ)
    (ts : List Parts) : Type 0 where
  pub day : Each (IsDayTree i.grammar) ts
  pub counts : (a : ArcKey) → In a listed → arc_count a ts ≡ value a

-- a roster of trees at the counts' cost
pub record IsRosterOf (i : Instance) (listed : List ArcKey) (value : ArcKey → ℕ)
    (ts : List Parts) : Type 0 where
  pub roster : IsTreeRoster i ts
  pub cost : trees_cost i ts ≡ counts_cost i listed value

-- trees that have the counts of an allowed roster, each cell's at most the greatest number of
-- employees, are a roster at the counts' cost
abbrev pub CountsMakeRosters : Type 0
CountsMakeRosters =
    (i : Instance) (listed : List ArcKey) (value : ArcKey → ℕ) (ts : List Parts) → IsSoundInstance i
    → HoldsArcsOnce i.grammar listed
    → AreCounts i listed value → HaveCounts i listed value ts → IsRosterOf i listed value ts

-- the cuts leave the arc this count
pub record IsLeft (i : Instance) (cuts : List Cut) (a : ArcKey) (n : ℕ) : Type 0 where
  pub low : lo cuts a ≤ n
  pub high : n ≤ hi i.heads_max cuts a

-- a cut that asks for trees that have an arc does not ask for what is no arc of the instance
abbrev pub AsksForArc : Instance → Cut → Type 0
AsksForArc i c = c.side ≡ High → (IsArc i.grammar c.arc → ⊥) → ⊥

-- trees with counts that the cuts leave meet the cuts
abbrev pub CountsMeetCuts : Type 0
CountsMeetCuts =
    (i : Instance) (cuts : List Cut) (listed : List ArcKey) (value : ArcKey → ℕ) (ts : List Parts)
    → HoldsArcsOnce i.grammar listed
    → HaveCounts i listed value ts → ((a : ArcKey) → In a listed → IsLeft i cuts a (value a))
    → Each (AsksForArc i) cuts → Each (Meets ts) cuts

-- the base cuts of an instance that is not plainly infeasible ask for arcs alone
abbrev pub BaseCutsAskForArcs : Type 0
BaseCutsAskForArcs = (i : Instance) → IsSoundInstance i → (IsPlainlyInfeasible i → ⊥)
    → Each (AsksForArc i) (base_cuts i)

-- the base cuts leave each arc a count
abbrev pub BaseCutsLeaveCounts : Type 0
BaseCutsLeaveCounts = (i : Instance) (a : ArcKey) → IsSoundInstance i
    → lo (base_cuts i) a ≤ hi i.heads_max (base_cuts i) a

-- the reduced cost of a tree: d times its cost, less what its letters are paid, with what its arcs pay
abbrev pub ReducedCosts : Type 0
ReducedCosts =
    (i : Instance) (p : Prices) (cuts : List Cut) (t : Parts) → IsDayTree i.grammar t
    → tree_sum (reduced_view i p cuts) 1 t
    ≡ Some (pos p.d *ℤ pos (cost i.grammar t) -ℤ sum_z (letter_price (cell_prices i.cells p.cell))
    (letters 1 t)
    +ℤ sum_z (arc_price (cut_prices 1 cuts p.mult)) (arcs 1 t))
