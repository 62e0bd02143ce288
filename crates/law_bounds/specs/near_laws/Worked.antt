-- The worked day's three shifts, each with the same weight, completed.
use Rattle.std.specs.Prelude.{ℕ, ◌≡◌, List, [], ◌∷◌, ◌++◌}
use Rattle.model_rosters.specs.Trees.{Parts}
use Rattle.law_bounds.specs.linear_programs.Solution.{Weighted}
use Rattle.law_bounds.specs.WorkedDay.{day, first, second, third}
use Rattle.law_bounds.specs.master_laws.Master.{MasterKey, missing, beyond}
use Rattle.law_bounds.specs.near_laws.Completed.{tree_columns, completed, completed_cost}

-- each shift with this weight
abbrev pub shifts_of : ℕ → List (Weighted Parts)
shifts_of n =
    record { weight = n; key = first } ∷ record { weight = n; key = second }
    ∷ record { weight = n; key = third } ∷ []

-- the own columns of the day's five rows with these weights
abbrev pub own_of : (ℕ → MasterKey) → ℕ → ℕ → ℕ → List (Weighted MasterKey)
own_of cell each least most =
    record { weight = each; key = cell 0 } ∷ record { weight = each; key = cell 1 }
    ∷ record { weight = each; key = cell 2 } ∷ record { weight = least; key = beyond 3 }
    ∷ record { weight = most; key = missing 4 } ∷ []

-- weights of 1/2 meet each need at the cost 6/2, those of 2/5 lack 1/5 of each at 10 a unit, and those of 2/3 bring
-- 1/3 of each beyond
pub record WorkedCompleted : Type 0 where
  pub met : completed day [] 2 (shifts_of 1) ≡ tree_columns (shifts_of 1) ++ own_of missing 0 3 3
  pub met_cost : completed_cost day [] 2 (shifts_of 1) ≡ 6
  pub short : completed day [] 5 (shifts_of 2) ≡ tree_columns (shifts_of 2) ++ own_of missing 1 6 9
  pub short_cost : completed_cost day [] 5 (shifts_of 2) ≡ 42
  pub more : completed day [] 3 (shifts_of 2) ≡ tree_columns (shifts_of 2) ++ own_of beyond 1 6 3
  pub more_cost : completed_cost day [] 3 (shifts_of 2) ≡ 12
