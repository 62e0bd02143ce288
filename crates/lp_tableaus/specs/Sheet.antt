-- Pivot paths whose tableau stands in lists.
use Rattle.std.specs.Prelude.{ℕ, ℤ, ◌≡◌, ◌<◌, ◌+◌, List, length, slice_index}
use Rattle.law_bounds.specs.linear_programs.Program.{Program}
use Rattle.law_bounds.specs.linear_programs.Tableau.{Tableau, PivotPath}
use Rattle.lp_fractions.specs.Row.{at}
use Rattle.lp_tableaus.specs.Lines.{row_at, IsLine, AreLines}

-- the tableau of these numbers: a right side stands behind its row's numbers, and the cost row has the prices, a value and kappa
abbrev pub tableau_of : {K : Type 0} → ℕ → (ℕ → K) → List (List ℤ) → List ℤ → Tableau K
tableau_of m keys rows cost = record {
  row = λ r i. at (row_at rows r) i;
  right = λ r. at (row_at rows r) m;
  basis = keys;
  y = at cost;
  value = at cost m;
  kappa = at cost (m + 1);
}

-- the lists have the lengths of a tableau of m rows, and numbers that may be stepped
pub record IsSheet (m : ℕ) (rows : List (List ℤ)) (cost : List ℤ) (basis : List ℕ) : Type 0 where
  pub lines : AreLines m rows
  pub prices : IsLine (m + 2) cost
  pub columns : length basis ≡ m

-- a path of n steps leads to the tableau of the lists, whose basic columns are listed
pub record IsOnPath {K : Type 0} (p : Program K) (Lists : ℕ → K → Type 0) (rows : List (List ℤ))
    (cost : List ℤ)
    (basis : List ℕ) (n : ℕ) : Type 0 where
  pub keys : ℕ → K
  pub path : PivotPath p n (tableau_of p.rows keys rows cost)
  pub listed : (r : ℕ) → r < p.rows → Lists (slice_index basis r) (keys r)

-- the lengths of what a turn and a pricing fill
pub record HasRoom (m : ℕ) (entries prices pivot : List ℤ) : Type 0 where
  pub entry : length entries ≡ m
  pub price : length prices ≡ m
  pub numbers : length pivot ≡ m + 2

-- the first m numbers are those of the row
abbrev pub AreCopied : ℕ → List ℤ → List ℤ → Type 0
AreCopied m numbers row = (i : ℕ) → i < m → at numbers i ≡ at row i
