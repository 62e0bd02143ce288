use Rattle.std.proofs.Common.{◌≡◌, ◌<◌, ℕ, get_or}
use Rattle.std.specs.Prelude.{int_div}
use Rattle.lp_fractions.specs.Row.{at}
use Rattle.lp_fractions.specs.pivot_rows.Rows.{AreNarrow}
use Rattle.lp_fractions.specs.pivot_rows.Quotients.{whole}
use Rattle.lp_fractions.proofs.pivot_rows.step.write_listed.Given as goal

abbrev pub invariant-loop-place : goal.invariant-loop-place
invariant-loop-place l = record {
  done : (j : ℕ) → j < l.place-index → at l.row (get_or l.places j 0) ≡ int_div (whole l.initial.row l.fn.factor l.other l.fn.entry (get_or l.places j 0)) l.fn.factor;
  kept : (k : ℕ) → ((j : ℕ) → j < l.place-index → get_or l.places j 0 ≡ k → ⊥) → at l.row k ≡ at l.initial.row k;
  narrow : AreNarrow l.row;
  counted : l.tally ≡ l.initial.tally;
}
