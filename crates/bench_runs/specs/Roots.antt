-- Days at whose root a master can be made.
use Rattle.model_rosters.specs.declared.instance.Instance.{Instance}
use Rattle.model_rosters.specs.Trees.{Parts, IsDayTree}
use Rattle.law_bounds.specs.Infeasible.{IsPlainlyInfeasible}

-- the day has a tree, and neither its head counts nor a cell alone show that no roster is allowed
pub record IsOpenDay (i : Instance) : Type 0 where
  pub busy : IsPlainlyInfeasible i → ⊥
  pub tree : (t : Parts) × IsDayTree i.grammar t
