-- Common denominators of weights.
use Rattle.std.specs.Prelude.{ℕ, ◌<◌, ◌≤◌, ◌^◌, List, unsigned_abs}
use Rattle.std.specs.Int.{◌∣◌}
use Rattle.model_rosters.specs.Folds.{Each}
use Rattle.search_node_columns.specs.declared.weights.Weight.{Weight}

abbrev pub den_of : Weight → ℕ
den_of x = unsigned_abs x.x.den

-- the least common multiple of d and n, which is at most 2^100
pub record IsCommonMultiple (d n m : ℕ) : Type 0 where
  pub some : 1 ≤ m
  pub few : m ≤ 2 ^ 100
  pub first : d ∣ m
  pub second : n ∣ m
  pub least : (k : ℕ) → d ∣ k → n ∣ k → m ∣ k

-- each common multiple is above 2^100
abbrev pub IsPast : ℕ → ℕ → Type 0
IsPast d n = (k : ℕ) → 1 ≤ k → d ∣ k → n ∣ k → 2 ^ 100 < k

-- each weight is a whole number of parts 1 / m
abbrev pub AreOver : ℕ → List Weight → Type 0
AreOver m weights = Each (λ (x : Weight). den_of x ∣ m) weights

-- the least common denominator, which is at most 2^100
pub record IsDenominator (weights : List Weight) (d : ℕ) : Type 0 where
  pub some : 1 ≤ d
  pub few : d ≤ 2 ^ 100
  pub over : AreOver d weights

-- each common denominator is above 2^100
abbrev pub AreAllPast : List Weight → Type 0
AreAllPast weights = (k : ℕ) → 1 ≤ k → AreOver k weights → 2 ^ 100 < k
