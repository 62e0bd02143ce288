-- Linear programs in equality form over a set of columns. A column is told by its key, since two may have equal entries and costs.
use Rattle.std.specs.Prelude.{ℕ, ℤ, pos, ◌*ℤ◌, ◌-ℤ◌, ◌≤ℤ◌, ◌<◌, ◌≡◌, cond, nat_eq}
use Rattle.law_bounds.specs.linear_programs.Sums.{dot}

-- a column: its entries by row, and its cost
pub record Column : Type 0 where
  pub entry : ℕ → ℤ
  pub cost : ℤ

-- a program: its rows with their right sides, the key of each row's unit column, what column a key tells, and which keys belong
pub record Program (K : Type 0) : Type 1 where
  pub rows : ℕ
  pub right : ℕ → ℤ
  pub unit : ℕ → K
  pub column : K → Column
  pub belongs : K → Type 0

-- the unit vector of row r
abbrev pub unit_vector : ℕ → ℕ → ℤ
unit_vector r i = cond (nat_eq r i) (pos 1) (pos 0)

-- no right side is negative, and each row has its unit column in the set
pub record IsSound {K : Type 0} (p : Program K) : Type 0 where
  pub right : (r : ℕ) → r < p.rows → pos 0 ≤ℤ p.right r
  pub belongs : (r : ℕ) → r < p.rows → p.belongs (p.unit r)
  pub units : (r i : ℕ) → r < p.rows → i < p.rows → (p.column (p.unit r)).entry i ≡ unit_vector r i

-- kappa times the reduced cost of a column at the prices y / kappa
abbrev pub reduced : ℕ → (ℕ → ℤ) → ℤ → Column → ℤ
reduced m y kappa c = kappa *ℤ c.cost -ℤ dot m y c.entry

-- no column of the set has a negative reduced cost at the prices y / kappa
abbrev pub IsPricedOut : {K : Type 0} → Program K → (ℕ → ℤ) → ℤ → Type 0
IsPricedOut {K} p y kappa = (k : K) → p.belongs k → pos 0 ≤ℤ reduced p.rows y kappa (p.column k)
