-- When one step of elimination on a row stays in range.
use Rattle.std.specs.Prelude.{ℕ, ℤ, ◌<◌, length, pos, ◌*ℤ◌, ◌-ℤ◌, List, slice_index_or}
use Rattle.law_bounds.specs.linear_programs.RowStep.{combined, IsRowStep}
use Rattle.lp_fractions.specs.Range.{InRange}

-- both products and the difference are in range
pub record EntryFits (p r a s : ℤ) : Type 0 where
  pub first : InRange (p *ℤ r)
  pub second : InRange (a *ℤ s)
  pub difference : InRange (p *ℤ r -ℤ a *ℤ s)

-- entry k of a row
abbrev pub at : List ℤ → ℕ → ℤ
at row k = slice_index_or row k (pos 0)

-- entry k of the new row before the common factor is taken out
abbrev pub new_at : ℤ → List ℤ → ℤ → List ℤ → ℕ → ℤ
new_at p row a other k = combined p (at row k) a (at other k)

-- every entry below n is computed in range
abbrev pub FitsBelow : ℤ → List ℤ → ℤ → List ℤ → ℕ → Type 0
FitsBelow p row a other n = (k : ℕ) → k < n → EntryFits p (at row k) a (at other k)

-- the step of elimination, each of whose entries is computed in range
pub record IsStep (p : ℤ) (row : List ℤ) (a : ℤ) (other left : List ℤ) (g : ℤ) : Type 0 where
  pub fits : FitsBelow p row a other (length row)
  pub step : IsRowStep (length row) p (at row) a (at other) (at left) g

-- the first entry that is out of range is j
pub record IsFirstWide (p : ℤ) (row : List ℤ) (a : ℤ) (other : List ℤ) (j : ℕ) : Type 0 where
  pub within : j < length row
  pub before : FitsBelow p row a other j
  pub wide : ¬ (EntryFits p (at row j) a (at other j))
