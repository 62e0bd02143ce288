use Rattle.std.proofs.Common.{ℕ, ◌≡◌, ◌≤◌}
use Rattle.model_shift_figures.specs.roster_changes.Totals.{total}
use Rattle.model_shift_figures.specs.roster_changes.Matchings.{choice}
use Rattle.model_shift_figures.specs.roster_changes.Changes.{pairs_of}
use Rattle.model_shift_figures.proofs.roster_changes.figures.left_over.Given as goal

abbrev pub invariant-loop-at : goal.invariant-loop-at
invariant-loop-at l = record {
  pairs : l.pairs ≡ total l.at (λ (at : ℕ). pairs_of (choice l.matching at));
  few : l.pairs ≤ l.at;
}
