use Rattle.std.proofs.Common.{◌≡◌, ◌++◌, drop}
use Rattle.text_lines.specs.Written.{tail}
use Rattle.plan_faults.proofs.duties.put_names.Given as goal

abbrev pub invariant-loop-name : goal.invariant-loop-name
invariant-loop-name l = l.fn.out ++ tail l.names ≡ l.out ++ tail (drop l.name-index l.names)
