use Rattle.std.proofs.Common.{◌≡◌, ℕ, ◌++◌, map, drop}
use Rattle.search_arc_weights.specs.Choices.{nearest}
use Rattle.search_arc_weights.proofs.choice.rounded_counts.Given as goal

abbrev pub invariant-loop-sum : goal.invariant-loop-sum
invariant-loop-sum l =
    map (λ (s : ℕ). nearest l.d l.margin s) l.sums
    ≡ l.counts ++ map (λ (s : ℕ). nearest l.d l.margin s) (drop l.sum-index l.sums)
