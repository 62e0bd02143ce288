use Rattle.std.proofs.Common.{ℕ, ◌≡◌, ◌≤◌}
use Rattle.model_shift_figures.specs.roster_changes.Totals.{total}
use Rattle.model_shift_figures.specs.roster_changes.Matchings.{shift_at, choice}
use Rattle.model_shift_figures.specs.roster_changes.Changes.{shifts_of}
use Rattle.model_shift_figures.proofs.roster_changes.figures.new_shifts.Given as goal

abbrev pub invariant-loop-at : goal.invariant-loop-at
invariant-loop-at l = record {
  sum : l.sum ≡ total l.at (λ (at : ℕ). shifts_of l.periods l.old (shift_at l.new at) (choice l.matching at));
  few : l.sum ≤ l.at;
}
