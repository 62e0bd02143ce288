use Rattle.std.proofs.Common.{◌≡◌, ◌≤◌}
use Rattle.model_shift_figures.specs.roster_changes.Totals.{total}
use Rattle.model_shift_figures.specs.roster_changes.Changes.{difference}
use Rattle.model_shift_figures.proofs.roster_changes.words.differing_periods.Given as goal

abbrev pub invariant-loop-period : goal.invariant-loop-period
invariant-loop-period l = record {
  count : l.count ≡ total l.period (difference l.before l.after);
  few : l.count ≤ l.period;
}
