use Rattle.std.proofs.Common.{◌≡◌, take}
use Rattle.plan_demand.specs.Demands.{groups_by}
use Rattle.plan_demand.proofs.teams.groups.Given as goal

abbrev pub invariant-loop-line : goal.invariant-loop-line
invariant-loop-line l = l.groups ≡ groups_by l.grammar (take l.line-index l.staff)
