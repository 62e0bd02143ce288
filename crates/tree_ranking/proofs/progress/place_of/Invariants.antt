use Rattle.std.proofs.Common.{◌-◌, ◌≤◌, length, take, drop}
use Rattle.model_rosters.specs.Folds.{Each}
use Rattle.tree_ranking.specs.declared.candidate.Candidate.{Candidate}
use Rattle.tree_ranking.specs.Candidates.{Comes}
use Rattle.tree_ranking.proofs.progress.place_of.Given as goal

abbrev pub invariant-loop-low : goal.invariant-loop-low
invariant-loop-low l = record {
  ordered : l.low ≤ l.high;
  within : l.high ≤ length l.waiting.items;
  before : Each (λ (d : Candidate). Comes d l.candidate) (take l.low l.waiting.items);
  after : Each (Comes l.candidate) (drop l.high l.waiting.items);
}

abbrev pub decreases-loop-low : goal.decreases-loop-low
decreases-loop-low l = l.high - l.low
