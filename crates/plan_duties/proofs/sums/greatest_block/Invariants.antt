use Rattle.std.proofs.Common.{◌≡◌, drop}
use Rattle.plan_duties.specs.Sums.{greatest_block}
use Rattle.plan_duties.proofs.sums.greatest_block.Given as goal

abbrev pub invariant-loop-code : goal.invariant-loop-code
invariant-loop-code l = greatest_block l.lines l.found l.codes ≡ greatest_block l.lines l.greatest (drop l.code-index l.codes)
