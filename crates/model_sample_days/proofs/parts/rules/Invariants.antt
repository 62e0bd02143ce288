use Rattle.std.proofs.Common.{◌≡◌, map, take}
use Rattle.model_sample_days.specs.Built.{rule_of}
use Rattle.model_sample_days.proofs.parts.rules.Given as goal

abbrev pub invariant-loop-left : goal.invariant-loop-left
invariant-loop-left l = l.rules ≡ map rule_of (take l.left-index l.parts)
