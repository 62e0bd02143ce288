use Rattle.std.proofs.Common.{ℕ, ◌<◌, ◌≤◌, ◌<ℤ◌, ◌≤ℤ◌}
use Rattle.tree_ranking.specs.Children.{child_at}
use Rattle.tree_ranking.proofs.branch.least_place.Given as goal

abbrev pub invariant-loop-place : goal.invariant-loop-place
invariant-loop-place l = record {
  within : l.best < l.place;
  before : (k : ℕ) → k < l.best → (child_at l.children l.best).sum <ℤ (child_at l.children k).sum;
  after : (k : ℕ) → l.best ≤ k → k < l.place → (child_at l.children l.best).sum ≤ℤ (child_at l.children k).sum;
}
