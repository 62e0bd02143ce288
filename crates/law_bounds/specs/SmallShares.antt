-- How large the shares of a Lagrangian value are, within the limits of a sound instance and of prices.
use Rattle.std.specs.Prelude.{ℕ, ℤ, ◌≤◌, ◌^◌, Option, IfSome}
use Rattle.model_rosters.specs.declared.instance.Side.{Side}
use Rattle.model_rosters.specs.Sums.{Within}
use Rattle.model_rosters.specs.Limits.{IsLimitedCell}
use Rattle.model_rosters.specs.Reduced.{CellPrice}
use Rattle.law_bounds.specs.Lagrangian.{trees_share, cell_at, cell_share, share_of}

pub record SmallShares : Type 0 where
  pub heads : (a b : ℕ) (z : Option ℤ) → a ≤ 64 → b ≤ 64 → IfSome z (Within (2 ^ 110))
      → Within (2 ^ 116) (trees_share a b z)
  pub cells : (d n : ℕ) (q : CellPrice) → d ≤ 2 ^ 30 → n ≤ 64 → IsLimitedCell q.cell
      → Within (2 ^ 80) q.price → Within (2 ^ 87) (cell_at d q n)
  pub least : (d most : ℕ) (q : CellPrice) → d ≤ 2 ^ 30 → most ≤ 64 → IsLimitedCell q.cell
      → Within (2 ^ 80) q.price → Within (2 ^ 87) (cell_share d most q)
  pub cuts : (s : Side) (m : ℤ) (b : ℕ) → b ≤ 64 → Within (2 ^ 80) m → Within (2 ^ 87) (share_of s m b)
