use Rattle.std.proofs.Common.{◌≡◌, drop}
use Rattle.plan_duties.specs.Pluses.{all_pass}
use Rattle.plan_duties.specs.Stretches.{part_fits}
use Rattle.plan_duties.proofs.stretch.parts_fit.Given as goal

abbrev pub invariant-loop-part : goal.invariant-loop-part
invariant-loop-part l = all_pass (part_fits l.day l.draft l.range) l.parts ≡ all_pass (part_fits l.day l.draft l.range) (drop l.part-index l.parts)
