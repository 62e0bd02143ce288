-- No rival's value is above the cost of any solution, so prices near such a cost are best.
use Rattle.std.proofs.Common.{◌≡◌, ℕ, ℤ, arith, pos, ◌+ℤ◌, ◌*ℤ◌, ◌≤ℤ◌, ◌+◌, ◌<◌, List, ◌⊎◌, inl, inr}
use Rattle.std.proofs.lemmas.Int.{ints}
use lib.IntN.{*ℤ_comm}
use Rattle.model_rosters.specs.declared.instance.Cut.{Cut}
use Rattle.model_rosters.specs.declared.instance.Instance.{Instance}
use Rattle.model_rosters.specs.declared.instance.Prices.{Prices}
use Rattle.model_rosters.specs.GreatestCost.{greatest_cost}
use Rattle.model_rosters.specs.SoundInstance.{IsSoundInstance}
use Rattle.law_bounds.specs.linear_programs.Sums.{dot}
use Rattle.law_bounds.specs.linear_programs.Solution.{Weighted, IsSolution, cost_of}
use Rattle.law_bounds.proofs.linear_programs.Duality.{weak_duality}
use Rattle.law_bounds.proofs.linear_programs.Orders.{le_factor, scale_le, times_le, times_swap}
use Rattle.law_bounds.specs.Infeasible.{IsPlainlyInfeasible}
use Rattle.law_bounds.specs.Lagrangian.{lagrangian_sum, IsLagrangian}
use Rattle.law_bounds.specs.BestPrices.{IsRival, AreBest, loss}
use Rattle.law_bounds.proofs.OneValue.{one-lagrangian}
use Rattle.law_bounds.specs.master_laws.Master.{MasterKey, master}
use Rattle.law_bounds.proofs.master_laws.Rivals.{rows, out, value_shown}
use Rattle.law_bounds.proofs.master_laws.RowSums.{price_at}

pub rivals_below : (i : Instance) (cuts : List Cut) (rival : Prices) (w : ℤ) (ws : List (Weighted MasterKey)) (q : ℕ) → IsSoundInstance i → (IsPlainlyInfeasible i → ⊥)
    → IsRival i rival cuts → IsLagrangian i rival cuts w → IsSolution (master i cuts) ws q → (w *ℤ pos q) ≤ℤ (cost_of (master i cuts).column ws *ℤ pos rival.d)
rivals_below i cuts p w ws q sound busy rival lag solution = by lag.value
  where
    finish : (L V C : ℤ) → L ≤ℤ V → (pos q *ℤ V) ≤ℤ (pos p.d *ℤ C) → (L *ℤ pos q) ≤ℤ (C *ℤ pos p.d)
    finish L V C a b =
        let t = scale_le (pos q) L V (omega (arith, ints)) a in
        let e = *ℤ_comm (pos q) L in
        let f = *ℤ_comm (pos p.d) C in
        omega (arith, ints)

    by : (IsPlainlyInfeasible i × (w ≡ pos p.d *ℤ pos (greatest_cost i + 1))) ⊎ ((IsPlainlyInfeasible i → ⊥) × (w ≡ lagrangian_sum i p cuts lag.z)) → (w *ℤ pos q) ≤ℤ (cost_of (master i cuts).column ws *ℤ pos p.d)
    by (inl b) = absurd (busy b.0)
    by (inr b) =
        let y = price_at (rows i p cuts lag.z sound busy rival lag.least) in
        let d = weak_duality (master i cuts) y (pos p.d) (out i p cuts lag.z sound busy rival lag.least) ws q solution in
        rw b.1 (finish (lagrangian_sum i p cuts lag.z) (dot (master i cuts).rows y (master i cuts).right) (cost_of (master i cuts).column ws) (value_shown i p cuts lag.z sound busy rival lag.least) d)

pub near_best : (i : Instance) (cuts : List Cut) (p : Prices) (l : ℤ) (ws : List (Weighted MasterKey)) (q : ℕ) → IsSoundInstance i → (IsPlainlyInfeasible i → ⊥) → IsLagrangian i p cuts l → IsSolution (master i cuts) ws q
    → (cost_of (master i cuts).column ws *ℤ pos p.d) ≤ℤ ((l +ℤ pos (loss i p cuts)) *ℤ pos q) → AreBest i p cuts
near_best i cuts p l ws q sound busy shown solution near = record {
  best = λ t day rival is v w lag other.
      let same = one-lagrangian i p cuts v l lag shown in
      let low = rivals_below i cuts rival w ws q sound busy is other solution in
      rw same (finish w (cost_of (master i cuts).column ws) (l +ℤ pos (loss i p cuts)) rival.d solution.positive low near);
}
  where
    finish : (w C L : ℤ) (e : ℕ) → 0 < q → (w *ℤ pos q) ≤ℤ (C *ℤ pos e) → (C *ℤ pos p.d) ≤ℤ (L *ℤ pos q) → (w *ℤ pos p.d) ≤ℤ (L *ℤ pos e)
    finish w C L e some a b =
        let a1 = times_le (w *ℤ pos q) (C *ℤ pos e) p.d a in
        let b1 = times_le (C *ℤ pos p.d) (L *ℤ pos q) e b in
        let s = times_swap C e p.d in
        let t = times_swap w q p.d in
        let u = times_swap L q e in
        let x = *ℤ_comm (pos q) (w *ℤ pos p.d) in
        let z = *ℤ_comm (pos q) (L *ℤ pos e) in
        le_factor (pos q) (w *ℤ pos p.d) (L *ℤ pos e) (omega (arith, ints)) (omega (arith, ints))
