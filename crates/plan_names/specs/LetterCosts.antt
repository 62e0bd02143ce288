-- What a line of the plan adds to the cost of a letter.
use Rattle.std.specs.Prelude.{ℕ, ◌+◌, ◌&&◌, cond, nat_eq, nat_le}
use Rattle.plan_laws.specs.declared.period_plan.Activity.{Activity}
use Rattle.plan_laws.specs.declared.period_plan.PeriodExtra.{PeriodExtra}
use Rattle.plan_laws.specs.PeriodShifts.{plus_of}

-- an activity, by a line of this plus
abbrev pub activity_cost : ℕ → ℕ → Activity → ℕ
activity_cost r c a = cond (nat_eq a.code c) (a.amount + plus_of r a) 0

-- an extra, in a period
abbrev pub extra_cost : ℕ → ℕ → PeriodExtra → ℕ
extra_cost c i e = cond (nat_eq e.code c && nat_le e.periods.lo i && nat_le i e.periods.hi) e.amount 0
