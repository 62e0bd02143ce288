-- What a refusal of a step tells.
use Rattle.std.specs.Prelude.{ℤ, pos, ◌≡◌, ◌<◌, ◌^◌, unsigned_abs}
use Rattle.lp_fractions.specs.declared.wide.TooWide.{TooWide}
use Rattle.lp_fractions.specs.declared.wide.TooWide.TheVariants.{Value}

-- it names a value above 2^56 in size
abbrev pub IsWideValue : TooWide → Type 0
IsWideValue fault = (value : ℤ) × (fault ≡ Value value (pos (2 ^ 56))) × (2 ^ 56 < unsigned_abs value)
