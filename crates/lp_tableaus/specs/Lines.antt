-- The rows of a tableau as lists: its numbers, and the right side behind them.
use Rattle.std.specs.Prelude.{ℕ, ℤ, pos, ◌≡◌, ◌≢◌, ◌<◌, ◌≤◌, ◌+◌, ◌^◌, ◌*ℤ◌, ◌≤ℤ◌, ◌<ℤ◌, ◌⊎◌, neg_ℤ, List, [], ◌++◌, length, slice_index_or, unsigned_abs}
use Rattle.law_bounds.specs.linear_programs.Sums.{dot}
use Rattle.lp_fractions.specs.Row.{at}
use Rattle.lp_fractions.specs.pivot_rows.Rows.{AreNarrow, IsPrimitive, StepsTo, IsWideStep, zeros}
use Rattle.lp_fractions.specs.pivot_rows.Columns.{number_in}
use Rattle.lp_fractions.specs.declared.pivot_rows.column.Place.{Place}

-- row r, empty past the end
abbrev pub row_at : List (List ℤ) → ℕ → List ℤ
row_at rows r = slice_index_or rows r []

-- so many numbers, none above 2^56 in size, without a common factor above 1
pub record IsLine (width : ℕ) (row : List ℤ) : Type 0 where
  pub long : length row ≡ width
  pub narrow : AreNarrow row
  pub primitive : IsPrimitive row

-- m rows of m numbers and a right side
pub record AreLines (m : ℕ) (rows : List (List ℤ)) : Type 0 where
  pub count : length rows ≡ m
  pub each : (r : ℕ) → r < m → IsLine (m + 1) (row_at rows r)

-- a column's entry in each of the first n rows, at most 2^68 in size
abbrev pub AreEntries : ℕ → List (List ℤ) → List Place → List ℤ → ℕ → Type 0
AreEntries m rows column entries n =
    (r : ℕ) → r < n → (at entries r ≡ dot m (at (row_at rows r)) (number_in column))
    × (unsigned_abs (at entries r) ≤ 2 ^ 68)

-- of the first n rows, row t has an entry above 0 and the least right side divided by its entry
pub record IsLeaving (m : ℕ) (rows : List (List ℤ)) (entries : List ℤ) (n t : ℕ) : Type 0 where
  pub within : t < n
  pub positive : pos 0 <ℤ at entries t
  pub least : (r : ℕ) → r < n → pos 0 <ℤ at entries r
      → (at (row_at rows t) m *ℤ at entries r) ≤ℤ (at (row_at rows r) m *ℤ at entries t)

-- a row as long as the cost row
abbrev pub padded : List ℤ → List ℤ
padded row = row ++ zeros 1

-- each of the first n rows but row t is stepped, and the others are as before
pub record AreStepped (old : List (List ℤ)) (entries : List ℤ) (t : ℕ) (new : List (List ℤ))
    (n : ℕ) : Type 0 where
  pub stepped : (r : ℕ) → r < n → r ≢ t
      → StepsTo (row_at old r) (at entries t) (padded (row_at old t)) (at entries r) (row_at new r)
  pub same : row_at new t ≡ row_at old t
  pub rest : (r : ℕ) → n ≤ r → row_at new r ≡ row_at old r

-- the step of some row but row t leads to a number above 2^56 in size
abbrev pub HasWideRow : ℕ → List (List ℤ) → List ℤ → ℕ → Type 0
HasWideRow m rows entries t = (r : ℕ) × (r < m) × (r ≢ t)
    × IsWideStep (row_at rows r) (at entries t) (padded (row_at rows t)) (at entries r)

-- one turn: the column with these entries and this reduced cost becomes basic in row t
pub record IsTurn (m : ℕ) (rows : List (List ℤ)) (cost entries : List ℤ) (reduced : ℤ) (t : ℕ)
    (new : List (List ℤ)) (left : List ℤ) : Type 0 where
  pub leaving : IsLeaving m rows entries m t
  pub others : AreStepped rows entries t new m
  pub prices : StepsTo cost (at entries t) (padded (row_at rows t)) (neg_ℤ reduced) left

-- the turn leads to a number above 2^56 in size
pub record IsWideTurn (m : ℕ) (rows : List (List ℤ)) (cost entries : List ℤ) (reduced : ℤ)
    (t : ℕ) : Type 0 where
  pub leaving : IsLeaving m rows entries m t
  pub wide : HasWideRow m rows entries t
      ⊎ IsWideStep cost (at entries t) (padded (row_at rows t)) (neg_ℤ reduced)
