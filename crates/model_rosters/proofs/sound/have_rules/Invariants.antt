use Rattle.std.proofs.Common.{◌≡◌, ℕ, ◌<◌, true}
use Rattle.model_rosters.specs.Sound.{has_rule}
use Rattle.model_rosters.proofs.sound.have_rules.Given as goal

abbrev pub invariant-loop-name : goal.invariant-loop-name
invariant-loop-name l = (x : ℕ) → x < l.name → has_rule l.rules x ≡ true
