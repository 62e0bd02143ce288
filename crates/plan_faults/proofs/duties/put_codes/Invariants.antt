use Rattle.std.proofs.Common.{◌≡◌, ◌++◌, drop}
use Rattle.plan_faults.specs.DutyFaults.{spaced_codes}
use Rattle.plan_faults.proofs.duties.put_codes.Given as goal

abbrev pub invariant-loop-code : goal.invariant-loop-code
invariant-loop-code l = l.fn.out ++ spaced_codes l.codes ≡ l.out ++ spaced_codes (drop l.code-index l.codes)
