-- What listed trees bring to rows, as numbers.
use Rattle.std.specs.Prelude.{ℕ, ℤ, pos, ◌≡◌, ◌+◌, ◌*◌, cond, Some, List, [], ◌∷◌, slice_get, slice_set, slice_index_or}
use Rattle.std.specs.Ordering.{int_eq}
use Rattle.model_rosters.specs.Trees.{Parts}
use Rattle.law_bounds.specs.linear_programs.Solution.{Weighted}
use Rattle.law_bounds.specs.master_laws.Rows.{Row}
use Rattle.law_bounds.specs.near_laws.Completed.{trees_bring}
use Rattle.lp_fractions.specs.declared.pivot_rows.column.Place.{Place}

-- the weight where the entry is 1, and else 0
abbrev pub part : ℕ → ℤ → ℕ
part w z = cond (int_eq z (pos 1)) w 0

-- the weight is added to the sums of the rows where a column has the entry 1
abbrev pub added : ℕ → List ℕ → List Place → List ℕ
added w sums [] = sums
added w sums (p ∷ ps) = added w (slice_set sums p.row (slice_index_or sums p.row 0 + part w p.value)) ps

-- the numbers are what weighted trees bring to rows
abbrev pub AreSums : List (Weighted Parts) → List Row → List ℕ → Type 0
AreSums ws rows sums =
    (r : ℕ) (x : Row) → slice_get rows r ≡ Some x → slice_index_or sums r 0 ≡ trees_bring x ws

-- what a tree of this weight brings is added
abbrev pub IsRaised : Parts → ℕ → List Row → List ℕ → List ℕ → Type 0
IsRaised t w rows old new =
    (r : ℕ) (x : Row) → slice_get rows r ≡ Some x
    → slice_index_or new r 0 ≡ slice_index_or old r 0 + w * x.brings t
