use Rattle.std.proofs.Common.{◌≡◌, drop}
use Rattle.plan_duties.specs.Pluses.{all_pass}
use Rattle.plan_duties.specs.Stretches.{block_fits}
use Rattle.plan_duties.proofs.stretch.blocks_fit.Given as goal

abbrev pub invariant-loop-code : goal.invariant-loop-code
invariant-loop-code l = all_pass (block_fits l.draft l.range) l.codes ≡ all_pass (block_fits l.draft l.range) (drop l.code-index l.codes)
