-- What causes forbid, and how a remaining day is read.
use Rattle.std.specs.Prelude.{ℕ, ◌≡◌, ◌≢◌, ◌<◌, ◌^◌, Ok, Option, List, []}
use Rattle.model_rosters.specs.declared.grammar.Grammar.{Grammar}
use Rattle.model_rosters.specs.declared.instance.Instance.{Instance}
use Rattle.model_rosters.specs.declared.instance.Shift.{Shift}
use Rattle.model_rosters.specs.Demands.{Demand}
use Rattle.model_rosters.specs.Sound.{IsSound, IsPlain}
use Rattle.model_rosters.specs.SoundInstance.{IsSoundInstance}
use Rattle.check_certificates.specs.RosterCauses.{duties}
use Rattle.text_demand.specs.InstanceOf.{day_grammar, instance_of}
use Rattle.text_demand.specs.Written.{AreDemandsOf}
use Rattle.check_values.specs.declared.remaining_day.answer.Rest.{Rest}
use Rattle.check_values.specs.declared.cause.Cause.{Cause}
use Rattle.check_values.specs.Causes.{AreFound}
use Rattle.check_values.specs.remaining_day.Answers.{NoRosterHas}
use Rattle.check_values.specs.remaining_day.Causes.{causes_of}
use Rattle.check_values.specs.remaining_day.RestText.{rest_text}

-- where there is a cause by the prices that were found, no roster of the day has the kept shifts
abbrev pub CausesForbid : Type 0
CausesForbid = (i : Instance) (kept : List Shift) (found : List (Option ℕ)) (causes : List Cause)
    → AreFound i kept found → causes ≡ causes_of i (duties kept) found → causes ≢ []
    → NoRosterHas i (duties kept)

-- the text of a day behind the comment, for the grammar of the day's rules, is read as that day
abbrev pub RestIsRead : Type 0
RestIsRead = (g : Grammar) (rest : Rest) (ds : List Demand) (count : ℕ) → IsSound g → IsPlain g
    → rest.day.grammar ≡ day_grammar g rest.day.groups → IsSoundInstance rest.day → AreDemandsOf rest.day ds
    → count < 2 ^ 64 → rest.paid < 2 ^ 64 → rest.penalty < 2 ^ 64
    → instance_of g (rest_text count rest ds) ≡ Ok rest.day
