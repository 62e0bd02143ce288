-- What remains of a day beside kept shifts, or why nothing does.
use Rattle.std.specs.Prelude.{ℕ, ◌≡◌, ◌≢◌, ◌≤◌, Option, List, [], ◌++◌, Ok, length, codes}
use Rattle.model_rosters.specs.declared.grammar.Grammar.{Grammar}
use Rattle.model_rosters.specs.declared.instance.Instance.{Instance}
use Rattle.model_rosters.specs.declared.instance.Shift.{Shift}
use Rattle.model_rosters.specs.Duties.{Duty}
use Rattle.model_rosters.specs.Folds.{sum_n}
use Rattle.model_rosters.specs.Rosters.{ArePrices, Costs}
use Rattle.model_rosters.specs.Sound.{IsSound, IsPlain}
use Rattle.model_rosters.specs.SoundInstance.{IsSoundInstance}
use Rattle.check_certificates.specs.RosterCauses.{duties}
use Rattle.model_rosters.specs.Demands.{Demand}
use Rattle.text_demand.specs.InstanceOf.{day_grammar, instance_of}
use Rattle.text_demand.specs.Written.{AreDemandsOf}
use Rattle.check_values.specs.Causes.{AreFound}
use Rattle.check_values.specs.CauseText.{causes_text}
use Rattle.check_values.specs.Orders.{SameDuties}
use Rattle.check_values.specs.declared.remaining_day.answer.Remaining.{Remaining}
use Rattle.check_values.specs.declared.remaining_day.answer.Remaining.TheVariants.{Day, Nobody, Impossible}
use Rattle.check_values.specs.declared.remaining_day.answer.Rest.{Rest}
use Rattle.check_values.specs.declared.cause.Cause.{Cause}
use Rattle.check_values.specs.remaining_day.Causes.{causes_of}
use Rattle.check_values.specs.remaining_day.Laws.{HasRest}
use Rattle.check_values.specs.remaining_day.RestText.{rest_text}
use Rattle.check_values.specs.remaining_day.Remaining.{remaining, most_left, AreWithin, kept_penalty}

-- a roster of the day may have the kept shifts, at these prices
pub record MayBeKept (i : Instance) (kept : List Shift) (prices : List ℕ) : Type 0 where
  pub priced : ArePrices i (duties kept) prices
  pub within : AreWithin i (duties kept)

-- the day is the remaining day, by whatever rules' grammar the day was made
abbrev pub IsRemainingDay : Instance → List Shift → Instance → Type 0
IsRemainingDay i kept day =
    (g : Grammar) → i.grammar ≡ day_grammar g i.groups → day ≡ remaining g i (duties kept)

-- the remaining day, and what the kept shifts cost
pub record IsRest (i : Instance) (kept : List Shift) (rest : Rest) : Type 0 where
  pub rules : Grammar
  pub ruled : i.grammar ≡ day_grammar rules i.groups
  pub prices : List ℕ
  pub may : MayBeKept i kept prices
  pub some : 1 ≤ most_left i (duties kept) i.groups
  pub day : IsRemainingDay i kept rest.day
  pub sound : IsSoundInstance rest.day
  pub paid : rest.paid ≡ sum_n (λ p. p) prices
  pub penalty : rest.penalty ≡ kept_penalty i (duties kept)
  pub right : HasRest i rest.day (duties kept) prices

-- nobody may work beside the kept shifts
pub record IsNobody (i : Instance) (kept : List Shift) : Type 0 where
  pub prices : List ℕ
  pub may : MayBeKept i kept prices
  pub none : most_left i (duties kept) i.groups ≡ 0

-- no allowed roster of the day has the kept shifts, in any order
abbrev pub NoRosterHas : Instance → List Duty → Type 0
NoRosterHas i kept =
    (all ds : List Duty) (amount : ℕ) → SameDuties all (kept ++ ds) → Costs i all amount → ⊥

-- each cause for which no roster of the day has the kept shifts
pub record IsImpossible (i : Instance) (kept : List Shift) (causes : List Cause) : Type 0 where
  pub found : List (Option ℕ)
  pub prices : AreFound i kept found
  pub all : causes ≡ causes_of i (duties kept) found
  pub some : causes ≢ []
  pub never : NoRosterHas i (duties kept)

-- what remains of a day, or why nothing does
abbrev pub IsRemaining : Instance → List Shift → Remaining → Type 0
IsRemaining i kept (Day rest) = IsRest i kept rest
IsRemaining i kept Nobody = IsNobody i kept
IsRemaining i kept (Impossible causes) = IsImpossible i kept causes

-- 0 where a day remains
abbrev pub rest_status : Remaining → ℕ
rest_status (Day rest) = 0
rest_status Nobody = 1
rest_status (Impossible causes) = 1

-- the text of the remaining day, which is read as that day by whatever rules' grammar the day was made
pub record IsDaySaid (i : Instance) (kept : List Shift) (rest : Rest) (output : List ℕ) : Type 0 where
  pub text : (ds : List Demand) → AreDemandsOf rest.day ds → output ≡ rest_text (length kept) rest ds
  pub again : (g : Grammar) → IsSound g → IsPlain g → i.grammar ≡ day_grammar g i.groups
      → instance_of g output ≡ Ok rest.day

-- the text of the remaining day, or why there is none
abbrev pub IsSaid : Instance → List Shift → Remaining → List ℕ → Type 0
IsSaid i kept (Day rest) output = IsDaySaid i kept rest output
IsSaid i kept Nobody output = output ≡ codes "nobody left\n"
IsSaid i kept (Impossible causes) output = output ≡ causes_text i kept causes

-- the status and the text that tell what remains of a day beside kept shifts
pub record RestAnswer (i : Instance) (kept : List Shift) (status : ℕ) (output : List ℕ) : Type 0 where
  pub remaining : Remaining
  pub is : IsRemaining i kept remaining
  pub status_is : status ≡ rest_status remaining
  pub said : IsSaid i kept remaining output
