-- Trees that cost no more than a solution near the prices' value cost at most what the prices show.
use Rattle.std.proofs.Common.{◌≡◌, ℕ, ℤ, zero, suc, arith, pos, negsuc, ◌+ℤ◌, ◌*ℤ◌, ◌≤ℤ◌, ◌+◌, ◌-◌, ◌*◌, ◌≤◌, ◌<◌, Bool, true, false, cond, List, length, refl, ap}
use Rattle.std.specs.Prelude.{nat_eq}
use Rattle.std.proofs.lemmas.Bool.{eqb-true}
use Rattle.std.proofs.Math.Nat.{le-div_iff_mul-le}
use Rattle.std.proofs.lemmas.Int.{ints}
use lib.IntN.{*ℤ_comm}
use Rattle.model_rosters.specs.declared.instance.Cut.{Cut}
use Rattle.model_rosters.specs.declared.instance.Instance.{Instance}
use Rattle.model_rosters.specs.declared.instance.Prices.{Prices}
use Rattle.model_rosters.specs.Trees.{Parts}
use Rattle.model_rosters.specs.RoundingLoss.{rounding_loss}
use Rattle.model_rosters.specs.SoundInstance.{IsSoundInstance}
use Rattle.model_rosters.proofs.CostBounds.{loss-le}
use Rattle.law_bounds.specs.linear_programs.Solution.{Weighted, cost_of}
use Rattle.law_bounds.proofs.linear_programs.Orders.{le_factor, times_le, times_swap}
use Rattle.law_bounds.specs.Lagrangian.{IsLagrangian}
use Rattle.law_bounds.specs.Priced.{IsPricedValue, rounded_up}
use Rattle.law_bounds.specs.BestPrices.{loss, rounding_denominator}
use Rattle.law_bounds.specs.TreeRosters.{trees_cost}
use Rattle.law_bounds.proofs.OneValue.{one-lagrangian}
use Rattle.law_bounds.proofs.TreeCosts.{trees_cost-le}
use Rattle.law_bounds.specs.master_laws.Master.{MasterKey, master}
use Rattle.law_bounds.specs.master_laws.WholeCounts.{MeetNode}
use Rattle.law_bounds.proofs.master_laws.BestPrices.{small_loss, rounded_up-ge}

pub near_counts : (i : Instance) (cuts : List Cut) (p : Prices) (l : ℤ) (ws : List (Weighted MasterKey)) (q shown : ℕ) (ts : List Parts) → IsSoundInstance i → length cuts ≤ 1500 → 1 ≤ q → 1 ≤ p.d → IsLagrangian i p cuts l
    → (cost_of (master i cuts).column ws *ℤ pos p.d) ≤ℤ ((l +ℤ pos (loss i p cuts)) *ℤ pos q) → IsPricedValue i p cuts shown → MeetNode i cuts ws q ts → trees_cost i ts ≤ shown
near_counts i cuts p l ws q w ts sound few some somep lag near shown meet =
    let c = trees_cost i ts in
    let same = one-lagrangian i p cuts shown.lagrangian l shown.is_lagrangian lag in
    let f = finish c (cost_of (master i cuts).column ws) (l +ℤ pos (loss i p cuts)) meet.cost near in
    let g = rounded_up-ge l p.d c (loss i p cuts) somep (small_loss i p cuts sound few somep) f in
    let u = trees_cost-le i sound.grammar.ranks.0 sound.grammar.ranks.1 ts meet.roster in
    let z = rw same at shown.value in
    omega arith
  where
    finish : (c : ℕ) (C L : ℤ) → (pos q *ℤ pos c) ≤ℤ C → (C *ℤ pos p.d) ≤ℤ (L *ℤ pos q) → (pos c *ℤ pos p.d) ≤ℤ L
    finish c C L a b =
        let t = times_le (pos q *ℤ pos c) C p.d a in
        let x = *ℤ_comm (pos q) (pos c) in
        let y = times_swap (pos c) q p.d in
        let v = *ℤ_comm (pos q) (pos c *ℤ pos p.d) in
        let u = *ℤ_comm (pos q) L in
        let r : (pos q *ℤ pos c) *ℤ pos p.d ≡ (pos c *ℤ pos q) *ℤ pos p.d = ap (λ (z : ℤ). z *ℤ pos p.d) x in
        le_factor (pos q) (pos c *ℤ pos p.d) L (omega (arith, ints)) (omega (arith, ints))
