use Rattle.std.proofs.Common.{ℕ, ◌≡◌, ◌*◌, ◌^◌, ◌≤◌}
use Rattle.model_shift_figures.specs.roster_changes.Totals.{total}
use Rattle.model_shift_figures.specs.roster_changes.Matchings.{choice}
use Rattle.model_shift_figures.specs.roster_changes.Scores.{row_score}
use Rattle.model_shift_figures.proofs.roster_changes.scores.score.Given as goal

abbrev pub invariant-loop-at : goal.invariant-loop-at
invariant-loop-at l = record {
  sum : l.sum ≡ total l.at (λ (at : ℕ). row_score l.periods l.old l.new l.row at (choice l.matching at));
  within : l.sum ≤ l.at * 2 ^ 23;
}
