-- What a fraction is.
use Rattle.std.specs.Prelude.{ℤ, ◌⊎◌, unsigned_abs, pos, ◌<ℤ◌}
use Rattle.std.specs.Int.{IsGcd}
use Rattle.lp_fractions.specs.Range.{InRange}

-- reduced, with a positive denominator, both in range
pub record IsFraction (num den : ℤ) : Type 0 where
  pub num_range : InRange num
  pub den_range : InRange den
  pub positive : pos 0 <ℤ den
  pub reduced : IsGcd (unsigned_abs num) (unsigned_abs den) 1

-- both above 0, or both below
abbrev pub IsSameSign : ℤ → ℤ → Type 0
IsSameSign a b = ((pos 0 <ℤ a) × (pos 0 <ℤ b)) ⊎ ((a <ℤ pos 0) × (b <ℤ pos 0))
