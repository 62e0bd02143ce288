use Rattle.std.proofs.Common.{◌≡◌, ℕ, ◌<◌, ◌≤◌, ◌^◌, unsigned_abs, length}
use Rattle.lp_fractions.specs.Row.{at}
use Rattle.lp_tableaus.specs.First.{AreUnitLines}
use Rattle.lp_tableaus.proofs.first.fill_rows.Given as goal

abbrev pub invariant-loop-row : goal.invariant-loop-row
invariant-loop-row l = record {
  lines : AreUnitLines (length l.right) l.row l.right l.rows;
  narrow : (r : ℕ) → r < l.row → unsigned_abs (at l.right r) ≤ 2 ^ 56;
  tally : l.tally ≡ l.fn.tally;
}
