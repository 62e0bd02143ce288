-- Listed columns with a negative reduced cost, and places of a column by their index.
use Rattle.std.specs.Prelude.{ℕ, ℤ, pos, ◌<◌, ◌+◌, ◌<ℤ◌, List, length, slice_index_or, unsigned_abs}
use Rattle.law_bounds.specs.linear_programs.Program.{Program, reduced}
use Rattle.lp_fractions.specs.Row.{at}
use Rattle.lp_fractions.specs.declared.pivot_rows.column.Place.{Place}

-- place k, an entry 0 past the end
abbrev pub place_at : List Place → ℕ → Place
place_at ps k = slice_index_or ps k (record { row = 0; value = pos 0 })

-- an entry other than -1, 0 and 1
abbrev pub HasLargePlace : List Place → Type 0
HasLargePlace ps = (k : ℕ) × (k < length ps) × (1 < unsigned_abs (place_at ps k).value)

-- a listed column of the program with a negative reduced cost at the prices of a cost row
pub record IsCheaper {K : Type 0} (p : Program K) (Lists : ℕ → K → Type 0) (size : ℕ) (cost : List ℤ)
    (column : ℕ) : Type 0 where
  pub within : column < size
  pub key : K
  pub listed : Lists column key
  pub member : p.belongs key
  pub cheaper : reduced p.rows (at cost) (at cost (p.rows + 1)) (p.column key) <ℤ pos 0
