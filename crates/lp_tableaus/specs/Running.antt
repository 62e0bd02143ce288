-- A run of pivots over lists.
use Rattle.std.specs.Prelude.{ℕ, ℤ, ◌≡◌, ◌+◌, List, length}
use Rattle.law_bounds.specs.linear_programs.Program.{Program, IsPricedOut}
use Rattle.lp_fractions.specs.Row.{at}
use Rattle.lp_tableaus.specs.Sheet.{IsSheet, IsOnPath, HasRoom, AreCopied}

-- a path leads to the lists, and as many pivots are left as it lacks of all
pub record IsRunning {K : Type 0} (p : Program K) (Lists : ℕ → K → Type 0) (rows : List (List ℤ))
    (cost : List ℤ) (basis : List ℕ)
    (entries prices pivot : List ℤ) (pivots left : ℕ) : Type 0 where
  pub sheet : IsSheet p.rows rows cost basis
  pub room : HasRoom p.rows entries prices pivot
  pub steps : ℕ
  pub count : steps + left ≡ pivots
  pub path : IsOnPath p Lists rows cost basis steps

-- a path leads to the lists, and leaves no column a negative reduced cost at the copied prices
pub record IsPriced {K : Type 0} (p : Program K) (Lists : ℕ → K → Type 0) (rows : List (List ℤ))
    (cost : List ℤ) (basis : List ℕ)
    (prices : List ℤ) : Type 0 where
  pub sheet : IsSheet p.rows rows cost basis
  pub steps : ℕ
  pub path : IsOnPath p Lists rows cost basis steps
  pub out : IsPricedOut p (at cost) (at cost (p.rows + 1))
  pub copied : AreCopied p.rows prices cost
  pub long : length prices ≡ p.rows
