-- Counts by the arcs' numbers.
use Rattle.std.specs.Prelude.{ℕ, cond, List, [], ◌∷◌, slice_index}
use Rattle.model_rosters.specs.declared.grammar.ArcKey.{ArcKey}
use Rattle.model_rosters.specs.Arcs.{same_arc}
use Rattle.model_rosters.specs.Folds.{sum_n}

-- the count of an arc, by the arcs and their counts in one order
abbrev pub count_of : List ArcKey → List ℕ → ArcKey → ℕ
count_of [] counts a = 0
count_of (x ∷ arcs) [] a = 0
count_of (x ∷ arcs) (c ∷ counts) a = cond (same_arc x a) c (count_of arcs counts a)

-- the sum of the counts at some places
abbrev pub sum_at : List ℕ → List ℕ → ℕ
sum_at counts places = sum_n (λ p. slice_index counts p) places
