-- What `value RULES DEMAND ROSTER` answers.
use Rattle.std.specs.Prelude.{ℕ, ◌≡◌, List, Ok, Err}
use Rattle.model_rosters.specs.declared.instance.Instance.{Instance}
use Rattle.model_rosters.specs.declared.instance.Shift.{Shift}
use Rattle.check_values.specs.Answers.{StatedAnswer}
use Rattle.check_values.specs.declared.stated_rosters.fault.RosterFault.{RosterFault}
use Rattle.check_values.specs.stated_rosters.FaultLine.{fault_line}
use Rattle.check_values.specs.stated_rosters.RosterOf.{roster_of}

-- status 5: the roster text is refused
pub record SaysRosterFault (i : Instance) (text output : List ℕ) : Type 0 where
  pub fault : RosterFault
  pub reading : roster_of i text ≡ Err fault
  pub line : output ≡ fault_line fault

-- the answers to a roster text
pub data Valuation (i : Instance) (text : List ℕ) : ℕ → List ℕ → Type 0 where
  accepted : (shifts : List Shift) (status : ℕ) (output : List ℕ) → roster_of i text ≡ Ok shifts
      → StatedAnswer i shifts status output → Valuation i text status output
  refused : (output : List ℕ) → SaysRosterFault i text output → Valuation i text 5 output
