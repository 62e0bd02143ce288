-- Prices near the cost of completed trees are best.
use Rattle.std.proofs.Common.{ℕ, ℤ, pos, ◌+ℤ◌, ◌*ℤ◌, ◌≤ℤ◌, ◌<◌, List, subst, sym}
use Rattle.model_rosters.specs.declared.instance.Cut.{Cut}
use Rattle.model_rosters.specs.declared.instance.Instance.{Instance}
use Rattle.model_rosters.specs.declared.instance.Prices.{Prices}
use Rattle.model_rosters.specs.Trees.{Parts, IsDayTree}
use Rattle.model_rosters.specs.SoundInstance.{IsSoundInstance}
use Rattle.law_bounds.specs.linear_programs.Solution.{Weighted, Each as EachKey}
use Rattle.law_bounds.specs.Infeasible.{IsPlainlyInfeasible}
use Rattle.law_bounds.specs.BestPrices.{AreBest, loss}
use Rattle.law_bounds.specs.near_laws.Completed.{completed}
use Rattle.law_bounds.specs.near_laws.Laws.{AreNear}
use Rattle.law_bounds.proofs.near_laws.NearBest.{near_best}
use Rattle.law_bounds.proofs.near_laws.CompletedLemmas.{completed_solves}

pub near_trees : (i : Instance) (cuts : List Cut) (ws : List (Weighted Parts)) (q : ℕ) (p : Prices) → IsSoundInstance i → (IsPlainlyInfeasible i → ⊥) → 0 < q → EachKey (IsDayTree i.grammar) ws → AreNear i cuts ws q p → AreBest i p cuts
near_trees i cuts ws q p sound busy some days near =
    let c = completed_solves i cuts ws q some days near.kept in
    near_best i cuts p near.lagrangian (completed i cuts q ws) q sound busy near.is_lagrangian c.solution
    (subst (λ (z : ℤ). (z *ℤ pos p.d) ≤ℤ ((near.lagrangian +ℤ pos (loss i p cuts)) *ℤ pos q)) (sym c.cost) near.within)
