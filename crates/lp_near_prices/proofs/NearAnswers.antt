-- What the parts of the call say together.
use Rattle.std.proofs.Common.{◌≡◌, ℕ, ℤ, arith, pos, ◌+◌, ◌≤◌, ◌+ℤ◌, ◌*ℤ◌, ◌≤ℤ◌, Option, List, length, refl, sym, subst, inr}
use Rattle.model_rosters.specs.declared.instance.Cut.{Cut}
use Rattle.model_rosters.specs.declared.instance.Instance.{Instance}
use Rattle.model_rosters.specs.declared.instance.Prices.{Prices}
use Rattle.model_rosters.specs.Trees.{Parts}
use Rattle.model_rosters.specs.Folds.{Each, sum_n}
use Rattle.law_bounds.specs.linear_programs.Solution.{Weighted}
use Rattle.law_bounds.specs.BestPrices.{artificial_cost, loss}
use Rattle.law_bounds.specs.Infeasible.{IsPlainlyInfeasible}
use Rattle.law_bounds.specs.Lagrangian.{IsLeastReduced, IsLagrangian, lagrangian_sum}
use Rattle.law_bounds.proofs.OneValue.{one-lagrangian}
use Rattle.law_bounds.specs.master_laws.Rows.{rows_of}
use Rattle.law_bounds.proofs.master_laws.RowSizes.{row_count}
use Rattle.law_bounds.specs.near_laws.Completed.{weighted_cost, residual_cost, completed_cost, IsKept}
use Rattle.law_bounds.specs.near_laws.Laws.{AreNear}

pub few_cuts : (i : Instance) (cuts : List Cut) → length (rows_of i cuts) ≤ 1500 → length cuts ≤ 1500
few_cuts i cuts h = omega (arith, row_count i cuts, h)

module _ (i : Instance) (cuts : List Cut) (p : Prices) (least : Option ℤ) (q : ℕ) (busy : IsPlainlyInfeasible i → ⊥) (is : IsLeastReduced i p cuts least) where
  lagrangian : IsLagrangian i p cuts (lagrangian_sum i p cuts least)
  lagrangian = record { z = least; least = is; value = inr (busy, refl) }

  module _ (ws : List (Weighted Parts)) (trees residuals : ℕ) (et : trees ≡ weighted_cost i ws) (er : residuals ≡ sum_n (residual_cost (artificial_cost i) q ws) (rows_of i cuts)) where
    cost_is : trees + residuals ≡ completed_cost i cuts q ws
    cost_is = rw (et, er) refl

    pub near-up : Each (IsKept q ws) (rows_of i cuts) → (pos (trees + residuals) *ℤ pos p.d) ≤ℤ ((lagrangian_sum i p cuts least +ℤ pos (loss i p cuts)) *ℤ pos q) → AreNear i cuts ws q p
    near-up kept h = record {
      kept = kept;
      lagrangian = lagrangian_sum i p cuts least;
      is_lagrangian = lagrangian;
      within = subst (λ (n : ℕ). (pos n *ℤ pos p.d) ≤ℤ ((lagrangian_sum i p cuts least +ℤ pos (loss i p cuts)) *ℤ pos q)) cost_is h;
    }

    pub near-down : AreNear i cuts ws q p → (pos (trees + residuals) *ℤ pos p.d) ≤ℤ ((lagrangian_sum i p cuts least +ℤ pos (loss i p cuts)) *ℤ pos q)
    near-down near =
        let same = one-lagrangian i p cuts near.lagrangian (lagrangian_sum i p cuts least) near.is_lagrangian lagrangian in
        subst (λ (v : ℤ). (pos (trees + residuals) *ℤ pos p.d) ≤ℤ ((v +ℤ pos (loss i p cuts)) *ℤ pos q)) same
        (subst (λ (n : ℕ). (pos n *ℤ pos p.d) ≤ℤ ((near.lagrangian +ℤ pos (loss i p cuts)) *ℤ pos q)) (sym cost_is) near.within)
