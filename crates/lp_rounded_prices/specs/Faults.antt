-- When rounded prices are refused.
use Rattle.std.specs.Prelude.{ℕ, ℤ, ◌≡◌, ◌⊎◌, ◌++◌, List}
use Rattle.model_rosters.specs.declared.instance.Cut.{Cut}
use Rattle.lp_fractions.specs.Range.{Counts, refused}
use Rattle.lp_fractions.specs.declared.wide.TooWide.{TooWide}
use Rattle.law_bounds.specs.master_laws.Rounding.{IsDenominator}
use Rattle.lp_rounded_prices.specs.Floors.{HasWideCell, HasWideMult}
use Rattle.lp_rounded_prices.specs.declared.round.RoundFault.{RoundFault}
use Rattle.lp_rounded_prices.specs.declared.round.RoundFault.TheVariants.{Wide, Memory}

-- the fault names the number of a cell whose price, or of a cut whose multiplier, is above 2^80 in size
pub record HasWideNumber (kappa : ℤ) (cells : List ℤ) (cuts : List Cut) (numbers : List ℤ)
    (fault : TooWide) : Type 0 where
  pub d : ℕ
  pub denominator : IsDenominator kappa (cells ++ numbers) d
  pub wide : HasWideCell kappa d fault cells ⊎ HasWideMult kappa d fault cuts numbers

-- what a fault tells of the numbers of cells and cuts
abbrev pub IsRoundFault : ℤ → List ℤ → List Cut → List ℤ → Counts → Counts → RoundFault → Type 0
IsRoundFault kappa cells cuts numbers old new (Wide fault) =
    (new ≡ refused old) × HasWideNumber kappa cells cuts numbers fault
IsRoundFault kappa cells cuts numbers old new Memory = new ≡ old
