-- The lists of the first tableau.
use Rattle.std.specs.Prelude.{ℕ, ℤ, pos, ◌≡◌, ◌<◌, ◌+◌, ◌^◌, List, length, unsigned_abs}
use Rattle.law_bounds.specs.linear_programs.Sums.{dot}
use Rattle.law_bounds.specs.linear_programs.Program.{Program, unit_vector}
use Rattle.lp_fractions.specs.Range.{Counts, refused}
use Rattle.lp_fractions.specs.Row.{at}
use Rattle.lp_tableaus.specs.Lines.{row_at, IsLine}
use Rattle.lp_tableaus.specs.declared.columns.ColumnsFault.{ColumnsFault}
use Rattle.lp_tableaus.specs.declared.columns.ColumnsFault.TheVariants.{Wide, Memory}

-- row `place` of m unit rows, with a right side behind it
pub record IsUnitLine (m place : ℕ) (right : ℤ) (row : List ℤ) : Type 0 where
  pub long : length row ≡ m + 1
  pub units : (i : ℕ) → i < m → at row i ≡ unit_vector place i
  pub last : at row m ≡ right

-- the first n of m unit rows, each with its right side
pub record AreUnitLines (m n : ℕ) (right : List ℤ) (rows : List (List ℤ)) : Type 0 where
  pub count : length rows ≡ n
  pub each : (r : ℕ) → r < n → IsUnitLine m r (at right r) (row_at rows r)

-- the cost row of the unit columns
pub record IsFirstCost {K : Type 0} (p : Program K) (right : List ℤ) (cost : List ℤ) : Type 0 where
  pub line : IsLine (p.rows + 2) cost
  pub y : (i : ℕ) → i < p.rows → at cost i ≡ (p.column (p.unit i)).cost
  pub value : at cost p.rows ≡ dot p.rows (at cost) (at right)
  pub kappa : at cost (p.rows + 1) ≡ pos 1

-- a right side is above 2^56 in size, which was counted, or memory did not suffice
abbrev pub IsRightFault : List ℤ → Counts → Counts → ColumnsFault → Type 0
IsRightFault right old new (Wide fault) = (new ≡ refused old)
    × ((r : ℕ) × (r < length right) × (2 ^ 56 < unsigned_abs (at right r)))
IsRightFault right old new Memory = new ≡ old
