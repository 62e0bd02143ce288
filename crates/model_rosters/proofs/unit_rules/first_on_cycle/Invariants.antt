use Rattle.std.proofs.Common.{ℕ, ◌≡◌, ◌<◌}
use Rattle.model_rosters.specs.Ranks.{reach_bit}
use Rattle.model_rosters.proofs.unit_rules.first_on_cycle.Given as goal

abbrev pub invariant-loop-name : goal.invariant-loop-name
invariant-loop-name l = (x : ℕ) → x < l.name → reach_bit l.reach x x ≡ 1 → ⊥
