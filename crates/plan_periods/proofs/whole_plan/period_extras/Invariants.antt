use Rattle.std.proofs.Common.{◌≡◌, map, take}
use Rattle.plan_laws.specs.Turned.{turned_extra}
use Rattle.plan_periods.proofs.whole_plan.period_extras.Given as goal

abbrev pub invariant-loop-extra : goal.invariant-loop-extra
invariant-loop-extra l = l.all ≡ map (turned_extra l.plan) (take l.extra-index l.extras)
