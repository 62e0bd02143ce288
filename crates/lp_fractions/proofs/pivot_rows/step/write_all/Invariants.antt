use Rattle.std.proofs.Common.{◌≡◌, ◌<◌, ◌≤◌, ℕ}
use Rattle.std.specs.Prelude.{int_div}
use Rattle.lp_fractions.specs.Row.{at}
use Rattle.lp_fractions.specs.pivot_rows.Rows.{AreNarrow}
use Rattle.lp_fractions.specs.pivot_rows.Quotients.{whole}
use Rattle.lp_fractions.proofs.pivot_rows.step.write_all.Given as goal

abbrev pub invariant-loop-place : goal.invariant-loop-place
invariant-loop-place l = record {
  done : (k : ℕ) → k < l.place → at l.row k ≡ int_div (whole l.initial.row l.fn.factor l.other l.fn.entry k) l.fn.divisor;
  rest : (k : ℕ) → l.place ≤ k → at l.row k ≡ at l.initial.row k;
  narrow : AreNarrow l.row;
  counted : l.tally ≡ l.initial.tally;
}
