-- Rounded prices are best, and trees of a solution of least cost cost no more than they show.
use Rattle.std.proofs.Common.{◌≡◌, ℕ, ℤ, zero, suc, arith, pos, negsuc, ◌+ℤ◌, ◌*ℤ◌, ◌≤ℤ◌, ◌+◌, ◌-◌, ◌*◌, ◌≤◌, ◌<◌, Bool, true, false, cond, List, length, refl}
use Rattle.std.specs.Prelude.{nat_eq}
use Rattle.std.proofs.lemmas.Bool.{eqb-true}
use Rattle.std.proofs.Math.Nat.{le-div_iff_mul-le}
use Rattle.std.proofs.lemmas.Int.{ints}
use lib.IntN.{*ℤ_comm}
use Rattle.model_rosters.specs.declared.instance.Cut.{Cut}
use Rattle.model_rosters.specs.declared.instance.Instance.{Instance}
use Rattle.model_rosters.specs.declared.instance.Prices.{Prices}
use Rattle.model_rosters.specs.Trees.{Parts, IsDayTree}
use Rattle.model_rosters.specs.Folds.{Each}
use Rattle.model_rosters.specs.RoundingLoss.{rounding_loss}
use Rattle.model_rosters.specs.SoundInstance.{IsSoundInstance}
use Rattle.model_rosters.proofs.CostBounds.{loss-le}
use Rattle.law_bounds.specs.linear_programs.Solution.{Weighted, IsValue, cost_of}
use Rattle.law_bounds.proofs.linear_programs.Ring.{*ℤ-assoc}
use Rattle.law_bounds.specs.Infeasible.{IsPlainlyInfeasible}
use Rattle.law_bounds.specs.Priced.{IsPricedValue, rounded_up}
use Rattle.law_bounds.specs.BestPrices.{AreBest, loss, rounding_denominator}
use Rattle.law_bounds.specs.TreeRosters.{trees_cost}
use Rattle.law_bounds.proofs.TreeCosts.{trees_cost-le}
use Rattle.law_bounds.proofs.linear_programs.Orders.{le_factor, times_le, times_swap}
use Rattle.law_bounds.specs.master_laws.Master.{MasterKey, master}
use Rattle.law_bounds.specs.master_laws.Rounding.{AreRoundedFrom}
use Rattle.law_bounds.specs.master_laws.WholeCounts.{MeetNode}
use Rattle.law_bounds.specs.master_laws.Laws.{ArePricesOf, IsBelowHeads}
use Rattle.law_bounds.proofs.master_laws.RoundedValue.{rounded_value}
use Rattle.law_bounds.proofs.master_laws.Rivals.{rivals_less}

pub are_best : (i : Instance) (cuts : List Cut) (y : ℕ → ℤ) (kappa : ℤ) (v : ℤ) (q : ℕ) (p : Prices) → IsSoundInstance i → (IsPlainlyInfeasible i → ⊥)
    → Each (IsBelowHeads i) cuts → IsValue (master i cuts) v q → ArePricesOf i cuts y kappa v q → AreRoundedFrom i cuts y kappa p → AreBest i p cuts
are_best i cuts y kappa v q p sound busy below value prices rounded = record {
  best = λ t day rival is l w lag other.
      let a = rivals_less i cuts rival w v q sound busy is other value in
      let b = rounded_value i cuts y kappa v q p t l sound busy day below prices rounded lag in
      let a1 = times_le (w *ℤ pos q) (v *ℤ pos rival.d) p.d a in
      let b1 = times_le (v *ℤ pos p.d) ((l +ℤ pos (loss i p cuts)) *ℤ pos q) rival.d b in
      let e = times_swap v rival.d p.d in
      let f = times_swap w q p.d in
      let g = times_swap (l +ℤ pos (loss i p cuts)) q rival.d in
      let some = value.positive in
      le_factor (pos q) (w *ℤ pos p.d) ((l +ℤ pos (loss i p cuts)) *ℤ pos rival.d) (omega (arith, ints))
      (let x = *ℤ_comm (pos q) (w *ℤ pos p.d) in let z = *ℤ_comm (pos q) ((l +ℤ pos (loss i p cuts)) *ℤ pos rival.d) in omega (arith, ints));
}

-- the loss is below the denominator
pub small_loss : (i : Instance) (p : Prices) (cuts : List Cut) → IsSoundInstance i → length cuts ≤ 1500 → 1 ≤ p.d → loss i p cuts < p.d
small_loss i p cuts sound few some = by (nat_eq p.d rounding_denominator) refl
  where
    by : (b : Bool) → nat_eq p.d rounding_denominator ≡ b → cond b (rounding_loss i (length cuts)) 0 < p.d
    by true e = let d = eqb-true p.d rounding_denominator e in omega (arith, loss-le i sound (length cuts) few)
    by false e = omega arith

pub rounded_up-ge : (v : ℤ) (d c e : ℕ) → 0 < d → e < d → (pos c *ℤ pos d) ≤ℤ (v +ℤ pos e) → c ≤ rounded_up v d
rounded_up-ge (negsuc n) d c e h k l = none c (omega (arith, ints))
  where
    none : (c : ℕ) → c * d < d → c ≤ 0
    none zero m = omega arith
    none (suc c) m = absurd (omega arith)
rounded_up-ge (pos n) d c e h k l =
    let m : c * d ≤ n + (d - 1) = omega (arith, ints) in
    (le-div_iff_mul-le {k = d} {x = c} {y = n + (d - 1)} h).1 m

pub counts_close : (i : Instance) (cuts : List Cut) (y : ℕ → ℤ) (kappa : ℤ) (v : ℤ) (q : ℕ) (p : Prices) (w : ℕ) (t : Parts) (ws : List (Weighted MasterKey)) (d : ℕ) (ts : List Parts)
    → IsSoundInstance i → (IsPlainlyInfeasible i → ⊥) → IsDayTree i.grammar t → Each (IsBelowHeads i) cuts → length cuts ≤ 1500 → 1 ≤ q → 1 ≤ d → 1 ≤ p.d
    → ArePricesOf i cuts y kappa v q → AreRoundedFrom i cuts y kappa p → IsPricedValue i p cuts w
    → cost_of (master i cuts).column ws *ℤ pos q ≡ v *ℤ pos d → MeetNode i cuts ws d ts → trees_cost i ts ≤ w
counts_close i cuts y kappa v q p w t ws d ts sound busy day below few someq somed somep prices rounded shown least meet =
    let lag = shown.lagrangian in
    let b = rounded_value i cuts y kappa v q p t lag sound busy day below prices rounded shown.is_lagrangian in
    let c = trees_cost i ts in
    let a : (pos c *ℤ pos q) ≤ℤ v = first c (cost_of (master i cuts).column ws) meet.cost least in
    let a1 = times_le (pos c *ℤ pos q) v p.d a in
    let e = times_swap (pos c) q p.d in
    let f = le_factor (pos q) (pos c *ℤ pos p.d) (lag +ℤ pos (loss i p cuts)) (omega (arith, ints))
    (let x = *ℤ_comm (pos q) (pos c *ℤ pos p.d) in let z = *ℤ_comm (pos q) (lag +ℤ pos (loss i p cuts)) in omega (arith, ints)) in
    let g = rounded_up-ge lag p.d c (loss i p cuts) somep (small_loss i p cuts sound few somep) f in
    let u = trees_cost-le i sound.grammar.ranks.0 sound.grammar.ranks.1 ts meet.roster in
    let z = shown.value in
    omega arith
  where
    first : (c : ℕ) (C : ℤ) → (pos d *ℤ pos c) ≤ℤ C → C *ℤ pos q ≡ v *ℤ pos d → (pos c *ℤ pos q) ≤ℤ v
    first c C h e =
        let a = times_le (pos d *ℤ pos c) C q h in
        let b = *ℤ-assoc (pos d) (pos c) (pos q) in
        let x = *ℤ_comm v (pos d) in
        le_factor (pos d) (pos c *ℤ pos q) v (omega (arith, ints)) (omega (arith, ints))
