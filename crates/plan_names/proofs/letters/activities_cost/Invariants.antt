use Rattle.std.proofs.Common.{◌≡◌, ◌++◌, ◌+◌, ◌*◌, ◌-◌, ◌&&◌, ℕ, List, [], ◌∷◌, Bool, true, false, suc, nat_eq, nat_le, map, take, drop}
use Rattle.model_rosters.specs.Folds.{sum_n}
use Rattle.plan_names.specs.LetterCosts.{activity_cost}
use Rattle.plan_names.proofs.letters.activities_cost.Given as goal

abbrev pub invariant-loop-activity : goal.invariant-loop-activity
invariant-loop-activity l = sum_n (activity_cost l.plus l.code) l.activities ≡ l.sum + sum_n (activity_cost l.plus l.code) (drop l.activity-index l.activities)
