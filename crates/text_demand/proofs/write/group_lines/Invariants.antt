use Rattle.std.proofs.Common.{◌≡◌, ◌++◌, take, map}
use Rattle.text_lines.specs.Written.{written}
use Rattle.text_demand.specs.Written.{group_line}
use Rattle.text_demand.proofs.write.group_lines.Given as goal

abbrev pub invariant-loop-group : goal.invariant-loop-group
invariant-loop-group l = l.out ≡ l.fn.out ++ written (map (group_line l.names) (take l.group-index l.groups))
