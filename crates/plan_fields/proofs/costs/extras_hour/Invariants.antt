use Rattle.std.proofs.Common.{◌≡◌, ◌≤◌, ◌+◌, ◌*◌, ◌^◌, drop}
use Rattle.plan_fields.specs.Costs.{extras_hour}
use Rattle.plan_fields.proofs.costs.extras_hour.Given as goal

abbrev pub invariant-loop-extra : goal.invariant-loop-extra
invariant-loop-extra l = (l.sum + extras_hour l.day l.code l.moment (drop l.extra-index l.extras) ≡ extras_hour l.day l.code l.moment l.extras)
    × (l.sum ≤ l.extra-index * 2 ^ 32)
