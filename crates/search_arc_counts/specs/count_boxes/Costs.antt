-- What the least counts of a box cost.
use Rattle.std.specs.Prelude.{ℕ, ◌≡◌, ◌+◌, cond, List, [], ◌∷◌, Option, None, Some, MatchOption}
use Rattle.model_rosters.specs.declared.grammar.ArcKey.{ArcKey}
use Rattle.model_rosters.specs.declared.instance.Instance.{Instance}
use Rattle.model_rosters.specs.Arcs.{same_arc}
use Rattle.model_rosters.specs.GreatestCost.{greatest_cost}
use Rattle.model_rosters.specs.arc_laws.Counts.{AreCounts, counts_cost}
use Rattle.search_arc_counts.specs.declared.count_boxes.bounds.Bounds.{Bounds}

-- the least count of an arc, by the arcs and their bounds in one order
abbrev pub low_of : List ArcKey → List Bounds → ArcKey → ℕ
low_of [] bounds a = 0
low_of (x ∷ arcs) [] a = 0
low_of (x ∷ arcs) (b ∷ bounds) a = cond (same_arc x a) b.low (low_of arcs bounds a)

-- the cost of the counts, none exactly where they are those of no allowed roster
abbrev pub IsCostOf : Instance → List ArcKey → (ArcKey → ℕ) → Option ℕ → Type 0
IsCostOf i listed value cost = MatchOption cost (AreCounts i listed value → ⊥)
    (λ c. AreCounts i listed value × (c ≡ counts_cost i listed value))

-- a cost as a number, where there is none one more than the greatest cost
abbrev pub pinned_number : Instance → Option ℕ → ℕ
pinned_number i None = greatest_cost i + 1
pinned_number i (Some c) = c
