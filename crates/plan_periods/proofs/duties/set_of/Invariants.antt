use Rattle.std.proofs.Common.{◌≡◌, take}
use Rattle.plan_laws.specs.Names.{chosen}
use Rattle.plan_laws.specs.Turned.{has_code}
use Rattle.plan_periods.proofs.duties.set_of.Given as goal

abbrev pub invariant-loop-activity : goal.invariant-loop-activity
invariant-loop-activity l = l.set ≡ chosen (has_code l.codes) (take l.activity-index l.activities)
