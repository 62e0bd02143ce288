use Rattle.std.proofs.Common.{◌≡◌, drop}
use Rattle.model_rosters.specs.Order.{known_after}
use Rattle.model_rosters.specs.Sound.{names_of}
use Rattle.model_rosters.proofs.sound.known_after_right.Given as goal

abbrev pub invariant-loop-sym : goal.invariant-loop-sym
invariant-loop-sym l = known_after l.fn.known (names_of l.right) ≡ known_after l.known (names_of (drop l.sym-index l.right))
