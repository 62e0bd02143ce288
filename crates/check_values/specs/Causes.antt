-- All causes for which a stated roster is not allowed.
use Rattle.std.specs.Prelude.{ℕ, ◌+◌, Bool, true, false, nat_lt, List, [], ◌∷◌, ◌++◌, Option, None, Some}
use Rattle.model_rosters.specs.declared.grammar.Grammar.{Grammar}
use Rattle.model_rosters.specs.declared.instance.Cell.{Cell}
use Rattle.model_rosters.specs.declared.instance.Instance.{Instance}
use Rattle.model_rosters.specs.declared.instance.Shift.{Shift}
use Rattle.model_rosters.specs.Coverage.{code_byte, covered}
use Rattle.model_rosters.specs.Duties.{Duty, duty}
use Rattle.model_rosters.specs.Folds.{count}
use Rattle.model_rosters.specs.Rosters.{IsTeamPrice, is_in_team}
use Rattle.model_rosters.specs.Teams.{Team, teams}
use Rattle.check_certificates.specs.RosterCauses.{IsNoShift}
use Rattle.check_values.specs.declared.cause.Cause.{Cause}
use Rattle.check_values.specs.declared.cause.Cause.TheVariants.{NoShift, TooFew, TooMany, BelowFloor, AboveCeiling}

-- the price of the shift's word in its team, or none where no team of its number has the word
abbrev pub IsFound : Instance → Shift → Option ℕ → Type 0
IsFound i s None = IsNoShift i s
IsFound i s (Some price) = IsTeamPrice i (duty s) price

-- that of each shift, in order
abbrev pub AreFound : Instance → List Shift → List (Option ℕ) → Type 0
AreFound i [] [] = Unit {0}
AreFound i (s ∷ ss) (o ∷ os) = IsFound i s o × AreFound i ss os
AreFound i [] (o ∷ os) = ⊥
AreFound i (s ∷ ss) [] = ⊥

abbrev pub only_if : Bool → Cause → List Cause
only_if true cause = cause ∷ []
only_if false cause = []

-- the causes of each item, in order
abbrev pub gathered : {A : Type 0} → (A → List Cause) → List A → List Cause
gathered f [] = []
gathered f (x ∷ xs) = f x ++ gathered f xs

-- shift number k has no price
abbrev pub shift_cause : ℕ → Option ℕ → List Cause
shift_cause k None = NoShift k ∷ []
shift_cause k (Some price) = []

-- the shifts without a price, numbered from k
abbrev pub shift_causes : ℕ → List (Option ℕ) → List Cause
shift_causes k [] = []
shift_causes k (o ∷ os) = shift_cause k o ++ shift_causes (k + 1) os

-- how many employees work in the team
abbrev pub heads : List Duty → Team → ℕ
heads ds t = count (is_in_team t) ds

-- so many employees of a team are too few or too many
abbrev pub range_causes : ℕ → ℕ → ℕ → ℕ → List Cause
range_causes number n least most =
    only_if (nat_lt n least) (TooFew number n least) ++ only_if (nat_lt most n) (TooMany number n most)

abbrev pub team_causes : List Duty → Team → List Cause
team_causes ds t = range_causes t.number (heads ds t) t.least t.most

-- so much coverage is below a floor or above a ceiling
abbrev pub limit_causes : ℕ → ℕ → ℕ → ℕ → ℕ → List Cause
limit_causes byte period have floor ceiling =
    only_if (nat_lt have floor) (BelowFloor byte period have floor)
    ++ only_if (nat_lt ceiling have) (AboveCeiling byte period have ceiling)

abbrev pub cell_causes : Grammar → List Duty → Cell → List Cause
cell_causes g ds c = limit_causes (code_byte g c.code) c.period (covered g c ds) c.floor c.ceiling

-- those of the shifts by the prices that were found, then those of the teams, then those of the cells
abbrev pub causes_of : Instance → List Duty → List (Option ℕ) → List Cause
causes_of i ds found =
    shift_causes 1 found ++ (gathered (team_causes ds) (teams i) ++ gathered (cell_causes i.grammar ds) i.cells)
