-- Certificates' numbers and nodes as a walk without memory meets them.
use Rattle.std.specs.Prelude.{ℕ, ℤ, ◌≡◌, ◌<◌, ◌≤◌, ◌^◌, All, List, [], ◌∷◌, length}
use Rattle.model_rosters.specs.declared.instance.Mult.{Mult}
use Rattle.model_rosters.specs.PriceLimits.{IsMult, nonzero}
use Rattle.model_rosters.specs.Sums.{Within}

-- the numbers of the cuts rise, from one above the last
abbrev pub RisesFrom : ℕ → List Mult → Type 0
RisesFrom last [] = Unit {0}
RisesFrom last (m ∷ ms) = (last < m.cut) × RisesFrom m.cut ms

-- a denominator, and a price for each of so many cells
pub record HasPrices (cells d : ℕ) (cell : List ℤ) : Type 0 where
  pub positive : 1 ≤ d
  pub small : d ≤ 2 ^ 30
  pub whole : length cell ≡ cells
  pub each : All (Within (2 ^ 80)) cell

-- multipliers of so many cuts, at most 1,500 of them not 0
pub record HasMults (cuts : ℕ) (mult : List Mult) : Type 0 where
  pub few : nonzero mult ≤ 1500
  pub each : All (IsMult cuts) mult
  pub rising : RisesFrom 0 mult
