use Rattle.std.proofs.Common.{◌≡◌, ◌≤◌, ◌+◌, ◌*◌, drop}
use Rattle.std.specs.Prelude.{slice_index}
use Rattle.model_rosters.specs.Folds.{sum_n}
use Rattle.search_arc_counts.proofs.roster_split.balance.sum_at.Given as goal

abbrev pub invariant-loop-place : goal.invariant-loop-place
invariant-loop-place l = record {
  value : sum_n (λ p. slice_index l.counts p) l.places ≡ l.sum + sum_n (λ p. slice_index l.counts p) (drop l.place-index l.places);
  within : l.sum ≤ 4294967295 * l.place-index;
}
