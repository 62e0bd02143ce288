-- When a sum or a difference of two fractions stays in range.
use Rattle.std.specs.Prelude.{ℕ, ℤ, ◌≡◌, pos, ◌+ℤ◌, ◌-ℤ◌, ◌*ℤ◌, unsigned_abs}
use Rattle.std.specs.Int.{IsGcd}
use Rattle.lp_fractions.specs.Range.{InRange}

-- n / d and m / e are left / den and right / den, three numbers in range: den is the least common multiple of d and e, and
-- the parts are d and e divided by their greatest common divisor
pub record IsCommonForm (n d m e left right den : ℤ) : Type 0 where
  pub factor : ℕ
  pub d_part : ℤ
  pub e_part : ℤ
  pub factor_is : IsGcd (unsigned_abs d) (unsigned_abs e) factor
  pub d_part_is : pos factor *ℤ d_part ≡ d
  pub e_part_is : pos factor *ℤ e_part ≡ e
  pub left_is : left ≡ n *ℤ e_part
  pub right_is : right ≡ m *ℤ d_part
  pub den_is : den ≡ d_part *ℤ e
  pub left_range : InRange left
  pub right_range : InRange right
  pub den_range : InRange den

-- n / d + m / e and the numbers on the way to it are in range
pub record SumFits (n d m e : ℤ) : Type 0 where
  pub left : ℤ
  pub right : ℤ
  pub den : ℤ
  pub form : IsCommonForm n d m e left right den
  pub sum : InRange (left +ℤ right)

-- n / d - m / e and the numbers on the way to it are in range
pub record DifferenceFits (n d m e : ℤ) : Type 0 where
  pub left : ℤ
  pub right : ℤ
  pub den : ℤ
  pub form : IsCommonForm n d m e left right den
  pub difference : InRange (left -ℤ right)
