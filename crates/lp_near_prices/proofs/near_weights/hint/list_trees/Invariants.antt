use Rattle.std.proofs.Common.{◌≤◌, ◌^◌, All, length}
use Rattle.lp_near_prices.specs.Listed.{IsListed}
use Rattle.lp_near_prices.proofs.near_weights.hint.list_trees.Given as goal

abbrev pub invariant-loop-place : goal.invariant-loop-place
invariant-loop-place l = (All (IsListed l.count) l.listed) × (length l.listed ≤ 2 ^ 13)
