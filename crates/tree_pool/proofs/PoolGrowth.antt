-- A pool that has grown, and columns of the pool before.
use Rattle.std.proofs.Common.{All, ℕ, ◌<◌, ◌≤◌, List, arith, length, length-append, ap, ◌∙◌}
use Rattle.tree_pool.specs.Pools.{PoolTree, IsGrown}

pub grown-length : (old new : List PoolTree) → IsGrown old new → length old ≤ length new
grown-length old new grown = let e = ap length grown.1 ∙ length-append old grown.0 in omega (arith, e)

-- what is below a number is below a greater one
pub more-columns : (n m : ℕ) (cs : List ℕ) → n ≤ m → All (λ (c : ℕ). c < n) cs → All (λ (c : ℕ). c < m) cs
more-columns n m cs le all k d lt = let h = all k d lt in omega (arith, h, le)
