use Rattle.std.proofs.Common.{◌≡◌, drop}
use Rattle.plan_laws.specs.Turned.{coded}
use Rattle.plan_periods.proofs.duties.coded.Given as goal

abbrev pub invariant-loop-activity : goal.invariant-loop-activity
invariant-loop-activity l = coded l.activities l.code ≡ coded (drop l.activity-index l.activities) l.code
