-- What a stated roster comes to: what it costs, or all causes for which it is not allowed.
use Rattle.std.specs.Prelude.{ℕ, ◌≡◌, ◌≢◌, ◌+◌, List, [], Option}
use Rattle.model_rosters.specs.declared.instance.Cell.{Cell}
use Rattle.model_rosters.specs.declared.instance.Instance.{Instance}
use Rattle.model_rosters.specs.declared.instance.Shift.{Shift}
use Rattle.model_rosters.specs.Coverage.{covered, penalty}
use Rattle.model_rosters.specs.Folds.{sum_n}
use Rattle.model_rosters.specs.Rosters.{IsRoster, Costs}
use Rattle.check_certificates.specs.RosterCauses.{duties, stated_prices}
use Rattle.text_reports.specs.Reports.{HasSoundShifts}
use Rattle.check_values.specs.declared.cause.Cause.{Cause}
use Rattle.check_values.specs.declared.judging.Judged.{Judged}
use Rattle.check_values.specs.declared.judging.Judged.TheVariants.{Allowed, Refused}
use Rattle.check_values.specs.declared.valued.Valued.{Valued}
use Rattle.check_values.specs.Causes.{AreFound, causes_of}

-- an allowed roster: the same shifts in order at their prices, the sum of these, that of the penalties, and both
-- together
pub record IsValued (i : Instance) (shifts : List Shift) (v : Valued) : Type 0 where
  pub same : duties v.shifts ≡ duties shifts
  pub allowed : IsRoster i (duties shifts) (stated_prices v.shifts)
  pub paid : v.paid ≡ sum_n (λ p. p) (stated_prices v.shifts)
  pub penalty : v.penalty ≡ sum_n (λ (c : Cell). penalty c (covered i.grammar c (duties shifts))) i.cells
  pub cost : v.cost ≡ v.paid + v.penalty
  pub sound : HasSoundShifts i v.shifts

-- a roster that is not allowed, and exactly the causes for that
pub record AreCauses (i : Instance) (shifts : List Shift) (causes : List Cause) : Type 0 where
  pub found : List (Option ℕ)
  pub prices : AreFound i shifts found
  pub all : causes ≡ causes_of i (duties shifts) found
  pub some : causes ≢ []
  pub never : (amount : ℕ) → Costs i (duties shifts) amount → ⊥

-- what a stated roster comes to
abbrev pub IsJudged : Instance → List Shift → Judged → Type 0
IsJudged i shifts (Allowed v) = IsValued i shifts v
IsJudged i shifts (Refused causes) = AreCauses i shifts causes
