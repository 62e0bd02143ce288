use Rattle.std.proofs.Common.{◌≡◌, ◌++◌, ◌+◌, ◌*◌, ◌-◌, ◌&&◌, ℕ, List, [], ◌∷◌, Bool, true, false, suc, nat_eq, nat_le, map, take, drop}
use Rattle.model_rosters.specs.Folds.{sum_n}
use Rattle.plan_names.specs.LetterCosts.{extra_cost}
use Rattle.plan_names.proofs.letters.extras_cost.Given as goal

abbrev pub invariant-loop-extra : goal.invariant-loop-extra
invariant-loop-extra l = sum_n (extra_cost l.code l.period) l.extras ≡ l.sum + sum_n (extra_cost l.code l.period) (drop l.extra-index l.extras)
