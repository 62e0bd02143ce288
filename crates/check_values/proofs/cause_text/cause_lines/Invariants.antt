use Rattle.std.proofs.Common.{◌≡◌, ◌++◌, take}
use Rattle.check_values.specs.CauseText.{causes_text}
use Rattle.check_values.proofs.cause_text.cause_lines.Given as goal

abbrev pub invariant-loop-cause : goal.invariant-loop-cause
invariant-loop-cause l = l.out ≡ l.fn.out ++ causes_text l.instance l.shifts (take l.cause-index l.causes)
