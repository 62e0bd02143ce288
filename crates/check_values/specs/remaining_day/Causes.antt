-- Why no roster of a day has the kept shifts.
use Rattle.std.specs.Prelude.{ℕ, Bool, true, false, Option, None, Some, List, [], ◌∷◌, filter}
use Rattle.model_rosters.specs.declared.instance.Instance.{Instance}
use Rattle.model_rosters.specs.Duties.{Duty}
use Rattle.check_values.specs.declared.cause.Cause.{Cause}
use Rattle.check_values.specs.declared.cause.Cause.TheVariants.{NoShift, TooFew, TooMany, BelowFloor, AboveCeiling}
use Rattle.check_values.specs.Causes as value

-- further shifts do not mend the cause
abbrev pub is_lasting : Cause → Bool
is_lasting (NoShift number) = true
is_lasting (TooFew group count least) = false
is_lasting (TooMany group count most) = true
is_lasting (BelowFloor byte period have floor) = false
is_lasting (AboveCeiling byte period have ceiling) = true

-- all such causes for which the kept shifts alone are no allowed roster: a word that is no shift, too many shifts
-- of a team, and too many at a cell, each in their order
abbrev pub causes_of : Instance → List Duty → List (Option ℕ) → List Cause
causes_of i kept found = filter is_lasting (value.causes_of i kept found)

-- the prices that were found
abbrev pub prices_of : List (Option ℕ) → List ℕ
prices_of [] = []
prices_of (None ∷ found) = prices_of found
prices_of (Some price ∷ found) = price ∷ prices_of found
