-- Basic columns with their weights.
use Rattle.std.specs.Prelude.{ℕ, ℤ, zero, suc, ◌≡◌, ◌*ℤ◌, List, [], ◌∷◌, slice_index}
use Rattle.law_bounds.specs.linear_programs.Sums.{dot}
use Rattle.lp_fractions.specs.Row.{at}
use Rattle.lp_tableaus.specs.Lines.{row_at}
use Rattle.lp_tableaus.specs.declared.simplex.Basic.{Basic}

-- the weight is the right side behind a row's m numbers divided by the column's entry there
pub record IsShare (m : ℕ) (row : List ℤ) (entry : ℕ → ℤ) (column : ℕ) (b : Basic) : Type 0 where
  pub number : b.col ≡ column
  pub share : b.x.num *ℤ dot m (at row) entry ≡ at row m *ℤ b.x.den

-- the basic columns of the first n rows with their weights, the last row first
abbrev pub AreShares : ℕ → List (List ℤ) → (ℕ → ℕ → ℤ) → List ℕ → List Basic → ℕ → Type 0
AreShares m rows entry basis [] zero = Unit {0}
AreShares m rows entry basis (b ∷ bs) (suc n) = IsShare m (row_at rows n) (entry n) (slice_index basis n) b
    × AreShares m rows entry basis bs n
AreShares m rows entry basis [] (suc n) = ⊥
AreShares m rows entry basis (b ∷ bs) zero = ⊥
