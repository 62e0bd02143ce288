use Rattle.std.proofs.Common.{◌≡◌, ℤ, pos, length, All}
use Rattle.search_branch_price.proofs.infeasible.plain_prices.Given as goal

-- the prices so far are 0
abbrev pub invariant-loop : goal.invariant-loop
invariant-loop l = (length l.cell ≡ l.counter) × All (λ (z : ℤ). z ≡ pos 0) l.cell
