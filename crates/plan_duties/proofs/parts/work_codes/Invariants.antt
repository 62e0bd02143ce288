use Rattle.std.proofs.Common.{◌≡◌, ◌++◌, drop}
use Rattle.plan_duties.specs.PartWords.{work_codes}
use Rattle.plan_duties.proofs.parts.work_codes.Given as goal

abbrev pub invariant-loop-line : goal.invariant-loop-line
invariant-loop-line l = work_codes l.lines ≡ l.codes ++ work_codes (drop l.line-index l.lines)
