use Rattle.std.proofs.Common.{◌≡◌, map, take}
use Rattle.model_made_days.specs.Built.{rule_of}
use Rattle.model_made_days.proofs.parts.rules.Given as goal

abbrev pub invariant-loop-part : goal.invariant-loop-part
invariant-loop-part l = l.rules ≡ map (rule_of l.cost) (take l.part-index l.parts)
