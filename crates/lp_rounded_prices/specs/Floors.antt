-- Numbers over kappa, rounded at a denominator d.
use Rattle.std.specs.Prelude.{ℕ, ℤ, zero, suc, pos, negsuc, neg_ℤ, ◌≡◌, ◌≤◌, ◌<◌, ◌<ℤ◌, ◌^◌, ◌⊎◌, List, [], ◌∷◌, ◌++◌, All, length, unsigned_abs}
use Rattle.model_rosters.specs.declared.instance.Cut.{Cut}
use Rattle.model_rosters.specs.declared.instance.Mult.{Mult}
use Rattle.model_rosters.specs.Folds.{Each}
use Rattle.model_rosters.specs.PriceLimits.{IsMult, AreRising}
use Rattle.model_rosters.specs.Reduced.{signed}
use Rattle.lp_fractions.specs.Range.{Counts, refused}
use Rattle.lp_fractions.specs.declared.wide.TooWide.{TooWide}
use Rattle.lp_fractions.specs.declared.wide.TooWide.TheVariants.{Scaled}
use Rattle.law_bounds.specs.master_laws.Rounding.{IsFloor, AreMults}
use Rattle.lp_rounded_prices.specs.declared.round.RoundFault.{RoundFault}
use Rattle.lp_rounded_prices.specs.declared.round.RoundFault.TheVariants.{Wide, Memory}

-- d times z / kappa is above 2^80 in size once it is rounded down, and the fault names the row's number x, kappa and d
pub record IsWide (kappa : ℤ) (d : ℕ) (x z : ℤ) (fault : TooWide) : Type 0 where
  pub rounded : ℤ
  pub floor : IsFloor kappa d z rounded
  pub wide : 2 ^ 80 < unsigned_abs rounded
  pub told : fault ≡ Scaled x kappa d (pos (2 ^ 80))

-- the fault names the number of a cell whose price, the floor of that number, is too wide
abbrev pub HasWideCell : ℤ → ℕ → TooWide → List ℤ → Type 0
HasWideCell kappa d fault [] = ⊥
HasWideCell kappa d fault (x ∷ xs) = IsWide kappa d x x fault ⊎ HasWideCell kappa d fault xs

-- the fault names the number of a cut whose multiplier, the floor of that number with its side's sign, is too wide
abbrev pub HasWideMult : ℤ → ℕ → TooWide → List Cut → List ℤ → Type 0
HasWideMult kappa d fault [] xs = ⊥
HasWideMult kappa d fault (c ∷ cs) [] = ⊥
HasWideMult kappa d fault (c ∷ cs) (x ∷ xs) = IsWide kappa d x (neg_ℤ (signed c.side x)) fault
    ⊎ HasWideMult kappa d fault cs xs

-- what a fault tells of a row's number x, of which z is rounded
abbrev pub IsNumberFault : ℤ → ℕ → ℤ → ℤ → Counts → Counts → RoundFault → Type 0
IsNumberFault kappa d x z old new (Wide fault) = (new ≡ refused old) × IsWide kappa d x z fault
IsNumberFault kappa d x z old new Memory = new ≡ old

-- what a fault tells of the numbers of some cells
abbrev pub IsCellFault : ℤ → ℕ → List ℤ → Counts → Counts → RoundFault → Type 0
IsCellFault kappa d xs old new (Wide fault) = (new ≡ refused old) × HasWideCell kappa d fault xs
IsCellFault kappa d xs old new Memory = new ≡ old

-- what a fault tells of the numbers of some cuts
abbrev pub IsMultFault : ℤ → ℕ → List Cut → List ℤ → Counts → Counts → RoundFault → Type 0
IsMultFault kappa d cuts xs old new (Wide fault) = (new ≡ refused old) × HasWideMult kappa d fault cuts xs
IsMultFault kappa d cuts xs old new Memory = new ≡ old

-- the multiplier of cut number j is listed where it is above 0
abbrev pub with_mult : List Mult → ℕ → ℤ → List Mult
with_mult ms j (pos zero) = ms
with_mult ms j (pos (suc n)) = ms ++ record { cut = j; value = pos (suc n) } ∷ []
with_mult ms j (negsuc n) = ms

-- the multipliers of all the cuts, of which those above 0 are listed
pub record AreMultsOf (kappa : ℤ) (d : ℕ) (cuts : List Cut) (numbers : List ℤ) (ms : List Mult) : Type 0 where
  pub floors : AreMults kappa d ms 1 cuts numbers
  pub each : All (IsMult (length cuts)) ms
  pub rising : AreRising ms
  pub few : length ms ≤ length cuts
  pub above : Each (λ (m : Mult). pos 0 <ℤ m.value) ms
