use Rattle.std.proofs.Common.{arith, ◌≤◌, ◌+◌, ℕ, ◌⊎◌}
use Rattle.model_rosters.specs.Cuts.{arc_count}
use Rattle.law_bounds.proofs.laws.one_half.Goals as goal

pub returns : goal.returns
returns c = λ a b ts. split b (arc_count a ts)
  where
    split : (b n : ℕ) → (n ≤ b) ⊎ (b + 1 ≤ n)
    split b n = grind arith
