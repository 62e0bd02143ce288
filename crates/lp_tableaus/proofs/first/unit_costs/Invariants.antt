use Rattle.std.proofs.Common.{◌≡◌, ℕ, ◌<◌, ◌^◌, pos, ◌≤ℤ◌, length}
use Rattle.lp_fractions.specs.Row.{at}
use Rattle.lp_tableaus.proofs.first.unit_costs.Given as goal

abbrev pub invariant-loop-row : goal.invariant-loop-row
invariant-loop-row g l = record {
  length : length l.costs.items ≡ l.row;
  costs : (r : ℕ) → r < l.row → at l.costs.items r ≡ ((g.C.Columns.program (g.C.Columns.site l.columns)).column ((g.C.Columns.program (g.C.Columns.site l.columns)).unit r)).cost;
  small : (r : ℕ) → r < l.row → at l.costs.items r ≤ℤ pos (2 ^ 39);
  tally : l.tally ≡ l.fn.tally;
}
