use Rattle.std.proofs.Common.{◌≡◌, drop}
use Rattle.text_rules.specs.RulesOf.{unruled}
use Rattle.text_rules.proofs.finish.unruled.Given as goal

abbrev pub invariant-loop-x : goal.invariant-loop-x
invariant-loop-x l = unruled l.rules 0 l.places ≡ unruled l.rules l.x (drop l.x l.places)
