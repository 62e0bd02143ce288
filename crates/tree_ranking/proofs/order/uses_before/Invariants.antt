use Rattle.std.proofs.Common.{drop}
use Rattle.tree_ranking.specs.Ranking.{UsesBefore}
use Rattle.tree_ranking.specs.Candidates.{IsApart}
use Rattle.tree_ranking.proofs.order.uses_before.Given as goal

abbrev pub invariant-loop-place : goal.invariant-loop-place
invariant-loop-place l = record {
  yes : UsesBefore (drop l.place l.first) (drop l.place l.second) → UsesBefore l.first l.second;
  no : UsesBefore (drop l.place l.second) (drop l.place l.first) → UsesBefore l.second l.first;
  apart : IsApart (drop l.place l.first) (drop l.place l.second);
}
