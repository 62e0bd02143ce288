-- A whole cost in units of 1 / d, rounded up, is itself.
use Rattle.std.proofs.Common.{◌≡◌, ℕ, pos, ◌+◌, ◌-◌, ◌*◌, ◌≤◌, ◌<◌, arith}
use Rattle.std.specs.Prelude.{◌*ℤ◌}
use Rattle.std.proofs.Math.Nat.{div-lt_iff_lt-mul}
use Rattle.law_bounds.specs.Priced.{rounded_up}

pub whole_up : (d u : ℕ) → 1 ≤ d → rounded_up (pos d *ℤ pos u) d ≡ u
whole_up d u h =
    let positive : 0 < d = omega arith in
    let below : d * u + (d - 1) < (u + 1) * d = omega arith in
    let less = (div-lt_iff_lt-mul {k = d} {x = d * u + (d - 1)} {y = u + 1} positive).1 below in
    let more = (div-lt_iff_lt-mul {k = d} {x = d * u + (d - 1)} {y = u} positive).0 in
    grind (arith, less, more)
