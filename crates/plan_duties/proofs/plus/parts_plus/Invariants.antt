use Rattle.std.proofs.Common.{◌≡◌, drop}
use Rattle.plan_duties.specs.Pluses.{all_pass, part_plus}
use Rattle.plan_duties.proofs.plus.parts_plus.Given as goal

abbrev pub invariant-loop-part : goal.invariant-loop-part
invariant-loop-part l = all_pass (part_plus l.day l.draft l.plus) l.parts ≡ all_pass (part_plus l.day l.draft l.plus) (drop l.part-index l.parts)
