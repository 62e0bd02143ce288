-- The tableau of the simplex method in whole numbers, its steps and its paths.
use Rattle.std.specs.Prelude.{ℕ, zero, suc, ℤ, pos, unsigned_abs, ◌*ℤ◌, neg_ℤ, ◌≤ℤ◌, ◌<ℤ◌, ◌<◌, ◌+◌, ◌≡◌, ◌≢◌, ◌⊎◌, cond, nat_eq, ◌^◌, List, [], ◌∷◌}
use Rattle.law_bounds.specs.linear_programs.Sums.{dot}
use Rattle.law_bounds.specs.linear_programs.RowStep.{IsRowStep}
use Rattle.law_bounds.specs.linear_programs.Program.{Column, Program, unit_vector, reduced}
use Rattle.law_bounds.specs.linear_programs.Solution.{Weighted}

-- row r has the numbers `row r 0` to `row r (m - 1)`, the right side `right r` and the key of its basic column;
-- the cost row has the numbers y, a value and kappa
pub record Tableau (K : Type 0) : Type 0 where
  pub row : ℕ → ℕ → ℤ
  pub right : ℕ → ℤ
  pub basis : ℕ → K
  pub y : ℕ → ℤ
  pub value : ℤ
  pub kappa : ℤ

-- a column's entry in row r
abbrev pub entry : {K : Type 0} → ℕ → Tableau K → ℕ → Column → ℤ
entry m t r c = dot m (t.row r) c.entry

-- the first tableau of a program: the unit columns are basic
pub record IsStart {K : Type 0} (p : Program K) (t : Tableau K) : Type 0 where
  pub rows : (r i : ℕ) → r < p.rows → i < p.rows → t.row r i ≡ unit_vector r i
  pub right : (r : ℕ) → r < p.rows → t.right r ≡ p.right r
  pub basis : (r : ℕ) → r < p.rows → t.basis r ≡ p.unit r
  pub y : (i : ℕ) → i < p.rows → t.y i ≡ (p.column (p.unit i)).cost
  pub value : t.value ≡ dot p.rows t.y p.right
  pub kappa : t.kappa ≡ pos 1

-- a row's numbers with its right side at place m
abbrev pub whole_row : ℕ → (ℕ → ℤ) → ℤ → ℕ → ℤ
whole_row m row right i = cond (nat_eq i m) right (row i)

-- the cost row's numbers with the value at place m and kappa at place m + 1
abbrev pub cost_row : {K : Type 0} → ℕ → Tableau K → ℕ → ℤ
cost_row m t i = cond (nat_eq i (m + 1)) t.kappa (whole_row m t.y t.value i)

-- row r as long as the cost row, with 0 at the place of kappa
abbrev pub padded_row : {K : Type 0} → ℕ → Tableau K → ℕ → ℕ → ℤ
padded_row m t r i = cond (nat_eq i (m + 1)) (pos 0) (whole_row m (t.row r) (t.right r) i)

-- column c has a negative reduced cost, and row t stands the ratio test: its entry p is above 0 and right / p is least
pub record IsChoice {K : Type 0} (m : ℕ) (old : Tableau K) (c : Column) (t : ℕ) : Type 0 where
  pub cheaper : reduced m old.y old.kappa c <ℤ pos 0
  pub within : t < m
  pub positive : pos 0 <ℤ entry m old t c
  pub least : (r : ℕ) → r < m → pos 0 <ℤ entry m old r c
      → (old.right t *ℤ entry m old r c) ≤ℤ (old.right r *ℤ entry m old t c)

-- one step: the column c of the key k becomes basic in row t
pub record IsStep {K : Type 0} (m : ℕ) (old : Tableau K) (k : K) (c : Column) (t : ℕ)
    (new : Tableau K) : Type 0 where
  pub choice : IsChoice m old c t
  pub same : ((i : ℕ) → i < m → new.row t i ≡ old.row t i) × (new.right t ≡ old.right t)
  pub rows : (r : ℕ) → r < m → r ≢ t
      → (g : ℤ) × IsRowStep (m + 1) (entry m old t c) (whole_row m (old.row r) (old.right r))
      (entry m old r c) (whole_row m (old.row t) (old.right t)) (whole_row m (new.row r) (new.right r)) g
  pub cost : (g : ℤ) × IsRowStep (m + 2) (entry m old t c) (cost_row m old)
      (neg_ℤ (reduced m old.y old.kappa c)) (padded_row m old t) (cost_row m new) g
  pub basis : (new.basis t ≡ k) × ((r : ℕ) → r < m → r ≢ t → new.basis r ≡ old.basis r)

-- n steps lead from the start of the program to the tableau
pub data PivotPath {K : Type 0} (p : Program K) : ℕ → Tableau K → Type 0 where
  start : (t : Tableau K) → IsStart p t → PivotPath p zero t
  step : (n : ℕ) (old new : Tableau K) (k : K) (t : ℕ) → PivotPath p n old → p.belongs k
      → IsStep p.rows old k (p.column k) t new → PivotPath p (suc n) new

-- a number of the tableau is above 2^56 in size
abbrev pub IsWide : {K : Type 0} → ℕ → Tableau K → Type 0
IsWide m t =
    ((r : ℕ) × (i : ℕ) × (r < m) × (i < m) × (2 ^ 56 < unsigned_abs (t.row r i)))
    ⊎ ((r : ℕ) × (r < m) × (2 ^ 56 < unsigned_abs (t.right r)))
    ⊎ ((i : ℕ) × (i < m) × (2 ^ 56 < unsigned_abs (t.y i)))
    ⊎ (2 ^ 56 < unsigned_abs t.value)
    ⊎ (2 ^ 56 < unsigned_abs t.kappa)

-- some pivot path of the program ends in a wide tableau
abbrev pub HasWidePath : {K : Type 0} → Program K → Type 0
HasWidePath {K} p = (n : ℕ) × (t : Tableau K) × PivotPath p n t × IsWide p.rows t

-- some pivot path of n steps ends with a column of the set that has a negative reduced cost
abbrev pub HasOpenPath : {K : Type 0} → Program K → ℕ → Type 0
HasOpenPath {K} p n = (t : Tableau K) × PivotPath p n t × (k : K) × p.belongs k
    × (reduced p.rows t.y t.kappa (p.column k) <ℤ pos 0)

-- the weights w 0 to w (n - 1), on the basic columns of the first n rows
abbrev pub on_basis : {K : Type 0} → (ℕ → K) → (ℕ → ℕ) → ℕ → List (Weighted K)
on_basis basis w zero = []
on_basis basis w (suc n) = record { weight = w n; key = basis n } ∷ on_basis basis w n

-- the solution of the tableau: the weight w r / q of each row's basic column is the row's right side divided by the column's entry there
pub record IsTableauSolution {K : Type 0} (p : Program K) (t : Tableau K) (w : ℕ → ℕ) (q : ℕ) : Type 0 where
  pub positive : 0 < q
  pub weights : (r : ℕ) → r < p.rows
      → pos (w r) *ℤ entry p.rows t r (p.column (t.basis r)) ≡ pos q *ℤ t.right r
