-- What the numbers of a tableau mean.
use Rattle.std.proofs.Common.{◌≡◌, ◌≢◌, ℕ, ℤ, pos, ◌<◌, ◌≤ℤ◌, ◌<ℤ◌}
use Rattle.law_bounds.specs.linear_programs.Sums.{dot}
use Rattle.law_bounds.specs.linear_programs.Program.{Program, reduced}
use Rattle.law_bounds.specs.linear_programs.Tableau.{Tableau, entry}

-- each row is a combination of the first rows and the other way round, each basic column has its own row, no right side is negative,
-- the prices fit the basis, and the value is that of the prices
pub record IsTied {K : Type 0} (p : Program K) (t : Tableau K) : Type 0 where
  pub right : (r : ℕ) → r < p.rows → t.right r ≡ dot p.rows (t.row r) p.right
  pub kernel : (v : ℕ → ℤ) → ((r : ℕ) → r < p.rows → dot p.rows (t.row r) v ≡ pos 0) → (i : ℕ) → i < p.rows → v i ≡ pos 0
  pub belongs : (r : ℕ) → r < p.rows → p.belongs (t.basis r)
  pub diagonal : (r : ℕ) → r < p.rows → pos 0 <ℤ entry p.rows t r (p.column (t.basis r))
  pub apart : (r s : ℕ) → r < p.rows → s < p.rows → r ≢ s → entry p.rows t r (p.column (t.basis s)) ≡ pos 0
  pub feasible : (r : ℕ) → r < p.rows → pos 0 ≤ℤ t.right r
  pub kappa : pos 0 <ℤ t.kappa
  pub tight : (r : ℕ) → r < p.rows → reduced p.rows t.y t.kappa (p.column (t.basis r)) ≡ pos 0
  pub value : t.value ≡ dot p.rows t.y p.right
