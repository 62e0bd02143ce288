use Rattle.std.proofs.Common.{◌↔◌, drop}
use Rattle.model_rosters.specs.Sound.{appearances, AreInOrder}
use Rattle.model_rosters.proofs.sound.are_in_order.Given as goal

abbrev pub invariant-loop-rule : goal.invariant-loop-rule
invariant-loop-rule l = AreInOrder 0 (appearances l.rules) ↔ AreInOrder l.known (appearances (drop l.rule-index l.rules))
