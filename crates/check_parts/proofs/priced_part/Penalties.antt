-- How large penalties are.
use Rattle.std.proofs.Common.{ℕ, ◌*◌, ◌^◌, ◌≤◌}
use Rattle.std.proofs.lemmas.Nat.{mul-le}
use Rattle.model_rosters.specs.declared.instance.Cell.{Cell}
use Rattle.model_rosters.specs.Coverage.{penalty}
use Rattle.model_rosters.specs.Limits.{IsLimitedCell}
use Rattle.model_rosters.proofs.CostBounds.{penalty_le}

pub penalties-le : (d : ℕ) (c : Cell) (n : ℕ) → d ≤ 2 ^ 30 → n ≤ 64 → IsLimitedCell c → d * penalty c n ≤ 2 ^ 30 * 1280000
penalties-le d c n h k l = mul-le d (penalty c n) (2 ^ 30) 1280000 h (penalty_le c n k l)
