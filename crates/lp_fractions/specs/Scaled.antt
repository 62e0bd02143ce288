-- The floor of a scaled fraction.
use Rattle.std.specs.Prelude.{ℕ, ℤ, pos, ◌*ℤ◌}
use Rattle.std.specs.Int.{int_div_euclid}

-- the floor of num * d / den, for a positive den
abbrev pub scaled_floor : ℤ → ℤ → ℕ → ℤ
scaled_floor num den d = int_div_euclid (num *ℤ pos d) den
