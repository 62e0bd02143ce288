use Rattle.std.proofs.Common.{ℕ, ◌<◌, pos, ◌≤ℤ◌, length, MatchOption}
use Rattle.lp_fractions.specs.Row.{at}
use Rattle.lp_tableaus.specs.Lines.{IsLeaving}
use Rattle.lp_tableaus.proofs.ratio.leaving.Given as goal

abbrev pub invariant-loop-row : goal.invariant-loop-row
invariant-loop-row l = MatchOption l.best ((r : ℕ) → r < l.row → at l.entries r ≤ℤ pos 0) (λ t. IsLeaving (length l.rows) l.rows l.entries l.row t)
