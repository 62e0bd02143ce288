use Rattle.std.proofs.Common.{◌≡◌, ◌++◌, take, map}
use Rattle.model_rosters.specs.Extension.{group_rule}
use Rattle.text_demand.proofs.extend.push_rules.Given as goal

abbrev pub invariant-loop-group : goal.invariant-loop-group
invariant-loop-group l = l.rules ≡ l.fn.rules ++ map (group_rule l.added) (take l.group-index l.groups)
