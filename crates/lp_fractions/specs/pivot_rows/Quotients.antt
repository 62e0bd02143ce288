-- The numbers of a step as quotients.
use Rattle.std.specs.Prelude.{ℕ, ℤ, ◌≡◌, ◌<◌, ◌^◌, List, length, unsigned_abs, int_div}
use Rattle.law_bounds.specs.linear_programs.RowStep.{combined}
use Rattle.lp_fractions.specs.Row.{at}

-- the number at k before the common factor is taken out
abbrev pub whole : List ℤ → ℤ → List ℤ → ℤ → ℕ → ℤ
whole row p other a k = combined p (at row k) a (at other k)

-- g is taken out of each number of the step
abbrev pub AreDivided : List ℤ → ℤ → List ℤ → ℤ → ℤ → List ℤ → Type 0
AreDivided row p other a g left = (k : ℕ) → k < length row → at left k ≡ int_div (whole row p other a k) g

-- where g is taken out of each number, one is above 2^56 in size
abbrev pub IsWideDivided : List ℤ → ℤ → List ℤ → ℤ → ℤ → Type 0
IsWideDivided row p other a g =
    (k : ℕ) × (k < length row) × (2 ^ 56 < unsigned_abs (int_div (whole row p other a k) g))
