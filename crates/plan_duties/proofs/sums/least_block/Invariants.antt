use Rattle.std.proofs.Common.{◌≡◌, drop}
use Rattle.plan_duties.specs.Sums.{least_block}
use Rattle.plan_duties.proofs.sums.least_block.Given as goal

abbrev pub invariant-loop-code : goal.invariant-loop-code
invariant-loop-code l = least_block l.lines l.found l.codes ≡ least_block l.lines l.least (drop l.code-index l.codes)
