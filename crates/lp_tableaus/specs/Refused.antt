-- When columns are not priced.
use Rattle.std.specs.Prelude.{ℕ, ℤ, ◌<◌, ◌^◌, ◌⊎◌, List, unsigned_abs}
use Rattle.lp_fractions.specs.Range.{Counts}
use Rattle.lp_fractions.specs.Row.{at}
use Rattle.lp_tableaus.specs.Risen.{HasRisen}
use Rattle.lp_tableaus.specs.declared.columns.ColumnsFault.{ColumnsFault}
use Rattle.lp_tableaus.specs.declared.columns.ColumnsFault.TheVariants.{Wide, Memory}

-- a price of a row or their denominator is above 2^56 in size
abbrev pub AreWidePrices : ℕ → List ℤ → ℤ → Type 0
AreWidePrices m y kappa = (2 ^ 56 < unsigned_abs kappa)
    ⊎ ((r : ℕ) × (r < m) × (2 ^ 56 < unsigned_abs (at y r)))

abbrev pub IsColumnsFault : ℕ → List ℤ → ℤ → Counts → Counts → ColumnsFault → Type 0
IsColumnsFault m y kappa old new (Wide fault) = HasRisen old.wide new.wide × AreWidePrices m y kappa
IsColumnsFault m y kappa old new Memory = Unit {0}
