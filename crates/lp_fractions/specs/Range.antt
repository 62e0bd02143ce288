-- The numbers that the crate computes with, and the counts of a tally.
use Rattle.std.specs.Prelude.{ℕ, ℤ, ◌<◌, ◌^◌, ◌+◌, ◌-◌, min, unsigned_abs}

-- within 2^127 - 1 in size
abbrev pub InRange : ℤ → Type 0
InRange z = unsigned_abs z < 2 ^ 127

-- how many refusals for width, and how many for a spent budget, were counted
pub record Counts : Type 0 where
  pub wide : ℕ
  pub spent : ℕ

-- one more, staying at the last value of a u64
abbrev pub raised : ℕ → ℕ
raised n = min (n + 1) (2 ^ 64 - 1)

-- one more refusal for width
abbrev pub refused : Counts → Counts
refused c = record c { wide = raised c.wide }

-- one more refusal for a spent budget
abbrev pub overspent : Counts → Counts
overspent c = record c { spent = raised c.spent }
