use Rattle.std.proofs.Common.{◌≡◌, ◌++◌, take}
use Rattle.check_values.proofs.group_rules.plain.add_names.Given as goal

abbrev pub invariant-loop-name : goal.invariant-loop-name
invariant-loop-name l = l.out ≡ l.fn.out ++ take l.name-index l.names
