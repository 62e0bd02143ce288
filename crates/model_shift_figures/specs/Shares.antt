-- Which share of a need is covered.
use Rattle.std.specs.Prelude.{ℕ, ◌-◌, ◌*◌, ◌/◌, Option, None, Some, nat_eq, if◌then◌else◌}

-- the covered part of a need in tenths of a percent, rounded down, or none where nothing is needed
unfoldable pub covered_share : ℕ → ℕ → Option ℕ
covered_share need short = if nat_eq need 0 then None else Some ((need - short) * 1000 / need)
