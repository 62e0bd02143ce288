-- What `rest RULES DEMAND ROSTER` answers.
use Rattle.std.specs.Prelude.{ℕ, ◌≡◌, List, Ok}
use Rattle.model_rosters.specs.declared.instance.Instance.{Instance}
use Rattle.model_rosters.specs.declared.instance.Shift.{Shift}
use Rattle.check_values.specs.remaining_day.Answers.{RestAnswer}
use Rattle.check_values.specs.stated_rosters.RosterOf.{roster_of}
use Rattle.command_texts.specs.what_if.Value.{SaysRosterFault}

-- the answers to a roster text, whose shifts are kept
pub data Resting (i : Instance) (text : List ℕ) : ℕ → List ℕ → Type 0 where
  accepted : (kept : List Shift) (status : ℕ) (output : List ℕ) → roster_of i text ≡ Ok kept
      → RestAnswer i kept status output → Resting i text status output
  refused : (output : List ℕ) → SaysRosterFault i text output → Resting i text 5 output
