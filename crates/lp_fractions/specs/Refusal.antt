-- What a refusal tells.
use Rattle.std.specs.Prelude.{ℕ, ℤ, ◌≡◌, List}
use Rattle.lp_fractions.specs.declared.wide.TooWide.{TooWide}
use Rattle.lp_fractions.specs.declared.wide.TooWide.TheVariants.{Row}
use Rattle.lp_fractions.specs.Row.{at, IsFirstWide}

-- the refusal names the numbers of the first place that is out of range
abbrev pub IsRowRefusal : ℤ → List ℤ → ℤ → List ℤ → TooWide → Type 0
IsRowRefusal p row a other fault =
    (j : ℕ) × IsFirstWide p row a other j × (fault ≡ Row p (at row j) a (at other j))
